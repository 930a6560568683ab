-- Lines of clients that say something.
use lib.Utf8.{encode}
use Rattle.std.proofs.Common.{◌≡◌, ◌<◌, ◌==◌, ◌||◌, ℕ, zero, suc, Bool, true, false, List, [], ◌++◌, codes, length, Option, Some, None, refl, ◌∙◌, ap, arith, nat_lt, ◌&&◌, not}
use mathlib.Core.Bool.{false≢true}
use Rattle.std.specs.Fmt.{decimal, digits}
use Rattle.std.proofs.lemmas.Bool.{ltb-true}
use Rattle.std.specs.List.{list_any}
use Rattle.std.specs.Option.{option_map, option_and_then}
use Rattle.std.specs.Result.{result_ok}
use Rattle.std.specs.Str.{is_utf8, chars}
use Rattle.md_expr_tree.specs.declared.tree.Expr.{Expr}
use Rattle.md_expr.specs.Reader.{verdict}
use Rattle.md_machine.specs.declared.Batch.{Batch}
use Rattle.md_machine.specs.Answers.{is_zero}
use Rattle.md_script.specs.declared.grammar.Meaning.{Meaning}
use Rattle.md_script.specs.declared.grammar.Meaning.TheVariants as meaning
use Rattle.md_script.specs.declared.options.Options.{Options}
use Rattle.md_script.specs.declared.script.What.{What}
use Rattle.md_script.specs.declared.script.What.TheVariants as what
use Rattle.md_script.specs.Lines.{first_word, after_word}
use Rattle.md_words.specs.Numbers.{number_in}
use Rattle.md_script.specs.Readings.{reading_of}
use Rattle.md_script.specs.Words.{client_of, number_of, expression_of}
use Rattle.md_script.specs.Options.{asked_of, choice_of, choice_by, number_choice}
use Rattle.md_script.specs.Query.{query_of, query_by}
use Rattle.md_script.specs.Grammar.{said, says_nothing, said_by, command_of, client_line, asked_by, event_of}
use Rattle.md_gen.specs.Reads.{IsTimely}
use Rattle.md_gen.specs.Scripts.{expression, options}
use Rattle.md_gen.proofs.Expressions.{IsAsked, asked_0, asked_1, asked_2, asked_3, asked_4, asked_5, asked_6, asked_7}

-- a line feed or a carriage return
abbrev pub is_end : ℕ → Bool
is_end c = c == 10 || c == 13

-- the line is whole, and says something whose forms of time are in range
pub record IsStated (line : List ℕ) : Type 0 where
  pub what : What
  pub says : said line ≡ Some (meaning.Says what)
  pub timely : IsTimely what
  pub whole : list_any is_end line ≡ false
  pub short : length line < 200

-- a client's line of a word, without its end
abbrev pub asked_text : List ℕ → ℕ → List ℕ
asked_text word client = codes "c" ++ decimal client ++ codes " " ++ word ++ codes " 1"

-- a client's query, without its end
abbrev pub query_text : ℕ → List ℕ
query_text client = codes "c" ++ decimal client ++ codes " query 1 " ++ options client ++ codes "where " ++ expression client

-- what holds of each client
pub below_8 : (P : ℕ → Type 0) → P 0 → P 1 → P 2 → P 3 → P 4 → P 5 → P 6 → P 7 → (client : ℕ) → client < 8 → P client
below_8 P a b c d e f g h zero less = a
below_8 P a b c d e f g h (suc zero) less = b
below_8 P a b c d e f g h (suc (suc zero)) less = c
below_8 P a b c d e f g h (suc (suc (suc zero))) less = d
below_8 P a b c d e f g h (suc (suc (suc (suc zero)))) less = e
below_8 P a b c d e f g h (suc (suc (suc (suc (suc zero))))) less = f
below_8 P a b c d e f g h (suc (suc (suc (suc (suc (suc zero)))))) less = g
below_8 P a b c d e f g h (suc (suc (suc (suc (suc (suc (suc zero))))))) less = h
below_8 P a b c d e f g h (suc (suc (suc (suc (suc (suc (suc (suc client)))))))) less = absurd (omega arith)

-- whether a line is whole and short
abbrev is_sized : List ℕ → Bool
is_sized line = not (list_any is_end line) && nat_lt (length line) 200

whole_of : (whole short : Bool) → (not whole && short) ≡ true → (whole ≡ false) × (short ≡ true)
whole_of true short e = absurd (false≢true e)
whole_of false short e = (refl, e)

stated_sized : (line : List ℕ) (what : What) → said line ≡ Some (meaning.Says what) → IsTimely what → is_sized line ≡ true → IsStated line
stated_sized line what says timely sized =
    let parts = whole_of (list_any is_end line) (nat_lt (length line) 200) sized in
    record { what = what; says = says; timely = timely; whole = parts.0; short = ltb-true (length line) 200 parts.1 }

-- each client's line of this word says so
abbrev Says : List ℕ → (ℕ → What) → ℕ → Type 0
Says word known client = said (asked_text word client) ≡ Some (meaning.Says (known client))

abbrev IsSized : List ℕ → ℕ → Type 0
IsSized word client = is_sized (asked_text word client) ≡ true

pub stated_gather : (client : ℕ) → client < 8 → IsStated (asked_text (codes "gather") client)
unfolding said is_utf8 chars encode says_nothing said_by first_word command_of client_of number_in client_line asked_by after_word number_of event_of digits
stated_gather client less =
    stated_sized (asked_text (codes "gather") client) (what.Gather client 1) (below_8 (Says (codes "gather") (λ client. what.Gather client 1)) refl refl refl refl refl refl refl refl client less) tt
    (below_8 (IsSized (codes "gather")) refl refl refl refl refl refl refl refl client less)

pub stated_poll : (client : ℕ) → client < 8 → IsStated (asked_text (codes "poll") client)
unfolding said is_utf8 chars encode says_nothing said_by first_word command_of client_of number_in client_line asked_by after_word number_of event_of digits
stated_poll client less =
    stated_sized (asked_text (codes "poll") client) (what.Poll client 1) (below_8 (Says (codes "poll") (λ client. what.Poll client 1)) refl refl refl refl refl refl refl refl client less) tt
    (below_8 (IsSized (codes "poll")) refl refl refl refl refl refl refl refl client less)

pub stated_disable : (client : ℕ) → client < 8 → IsStated (asked_text (codes "disable") client)
unfolding said is_utf8 chars encode says_nothing said_by first_word command_of client_of number_in client_line asked_by after_word number_of event_of digits
stated_disable client less =
    stated_sized (asked_text (codes "disable") client) (what.Disable client 1) (below_8 (Says (codes "disable") (λ client. what.Disable client 1)) refl refl refl refl refl refl refl refl client less) tt
    (below_8 (IsSized (codes "disable")) refl refl refl refl refl refl refl refl client less)

pub stated_enable : (client : ℕ) → client < 8 → IsStated (asked_text (codes "enable") client)
unfolding said is_utf8 chars encode says_nothing said_by first_word command_of client_of number_in client_line asked_by after_word number_of event_of digits
stated_enable client less =
    stated_sized (asked_text (codes "enable") client) (what.Enable client 1) (below_8 (Says (codes "enable") (λ client. what.Enable client 1)) refl refl refl refl refl refl refl refl client less) tt
    (below_8 (IsSized (codes "enable")) refl refl refl refl refl refl refl refl client less)

abbrev batch_of : Option ℕ → Batch
batch_of update = record { first = None; progress = None; update = update; ms = None }

abbrev options_of : Option ℕ → Options
options_of update = record { scope = None; first = None; progress = None; update = update; ms = None; keys = [] }

abbrev says_query : ℕ → Option ℕ → Option Expr → Option Meaning
says_query client update e = option_map (λ what. meaning.Says what) (option_and_then (query_by client 1 (options_of update)) e)

stated_query : (client : ℕ) → IsAsked client → (update : Option ℕ) → said (query_text client) ≡ says_query client update (result_ok (verdict (expression client)))
    → is_zero update ≡ false → is_sized (query_text client) ≡ true → IsStated (query_text client)
unfolding query_by
stated_query client asked update says some sized =
    stated_sized (query_text client) (what.Query client 1 asked.expr [] [] (batch_of update)) (says ∙ ap (λ r. says_query client update (result_ok r)) asked.read ∙ rw some refl) asked.timely sized

pub stated_queries : (client : ℕ) → client < 8 → IsStated (query_text client)
unfolding said is_utf8 chars encode says_nothing said_by first_word command_of client_of number_in client_line asked_by after_word number_of query_of asked_of choice_of choice_by number_choice expression_of reading_of expression digits
stated_queries =
    below_8 (λ client. IsStated (query_text client))
    (stated_query 0 asked_0 None refl refl refl)
    (stated_query 1 asked_1 None refl refl refl)
    (stated_query 2 asked_2 None refl refl refl)
    (stated_query 3 asked_3 None refl refl refl)
    (stated_query 4 asked_4 (Some 5) refl refl refl)
    (stated_query 5 asked_5 (Some 5) refl refl refl)
    (stated_query 6 asked_6 (Some 5) refl refl refl)
    (stated_query 7 asked_7 (Some 5) refl refl refl)
