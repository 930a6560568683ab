use Rattle.md_tool.proofs.top.run.Goals as goal

pub returns : goal.returns
returns g c =
    record {
      runs = record {
        ends = c.run_words.ensures.ends;
        idle = c.run_words.ensures.idle;
        leaves = c.run_words.ensures.leaves;
        so_far = c.run_words.ensures.so_far;
        usage = c.run_words.ensures.usage;
        tells = c.run_words.ensures.tells;
        write_fault = c.run_words.ensures.write_fault;
        complete = λ command is ready none. c.run_words.ensures.complete command is ready none.inputs none.outputs;
      };
    }
