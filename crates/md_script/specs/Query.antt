-- The query that a line creates.
use Rattle.std.specs.Prelude.{ℕ, ◌||◌, if◌then◌else◌, List, [], Option, Some, None, unwrap_or}
use Rattle.std.specs.Option.{option_map, option_and_then}
use Rattle.md_expr_tree.specs.declared.tree.Expr.{Expr}
use Rattle.md_world.specs.declared.order.SortKey.{SortKey}
use Rattle.md_world.specs.Orders.{names_content}
use Rattle.md_machine.specs.declared.Batch.{Batch}
use Rattle.md_machine.specs.Answers.{is_zero}
use Rattle.md_script.specs.declared.options.Options.{Options}
use Rattle.md_script.specs.declared.script.What.{What}
use Rattle.md_script.specs.declared.script.What.TheVariants as what
use Rattle.md_script.specs.Lines.{first_word, after_word, words_of}
use Rattle.md_script.specs.Words.{number_of, expression_of}
use Rattle.md_script.specs.Options.{asked_of}

-- the order by these keys, none of which names the text content
abbrev pub order_of : List SortKey → Option (List SortKey)
order_of keys = if names_content keys then None else Some keys

-- the batch of these numbers, the first three of which are from 1
abbrev pub batch_of : Option ℕ → Option ℕ → Option ℕ → Option ℕ → Option Batch
batch_of first progress update ms =
    if is_zero first || is_zero progress || is_zero update then None else Some (record { first = first; progress = progress; update = update; ms = ms })

-- what asks for the files inside the scope, or inside the root where the options have none
unfoldable pub query_by : ℕ → ℕ → Options → Expr → Option What
query_by client number options expr =
    option_and_then (λ order. option_map (λ batch. what.Query client number expr (unwrap_or options.scope []) order batch) (batch_of options.first options.progress options.update options.ms)) (order_of options.keys)

-- `N OPTIONS where EXPRESSION` or `N where EXPRESSION`
unfoldable pub query_of : ℕ → List ℕ → Option What
query_of client rest =
    option_and_then (λ number. option_and_then (λ asked. option_and_then (query_by client number asked.0) (expression_of asked.1)) (asked_of (words_of (after_word rest)))) (number_of (first_word rest))
