use Rattle.md_tool.proofs.top.run_tool.Goals as goal

pub returns : goal.returns
returns g c =
    record {
      runs = record {
        ends = c.run_command.ensures.ends;
        leaves = c.run_command.ensures.leaves;
        so_far = c.run_command.ensures.so_far;
        tells = c.run_command.ensures.tells;
        write_fault = c.run_command.ensures.write_fault;
        complete = λ ready none. c.run_command.ensures.complete ready none.inputs none.outputs;
      };
    }
