-- A client asks no more than there are lines.
use Rattle.std.proofs.Common.{◌≡◌, ℕ, ◌+◌, ◌≤◌, ℤ, Bool, true, false, List, [], ◌∷◌, length, filter, All, refl, ap, arith, Option, None, Some}
use Rattle.std.specs.List.{AllByRecursion, cons_option}
use Rattle.std.proofs.lemmas.List.Elements.{All-nil, All-cons}
use Rattle.md_machine.specs.declared.Event.{Event}
use Rattle.md_merge.specs.Journals.{is_by}
use Rattle.md_script.specs.declared.script.Line.{Line}
use Rattle.md_workers.specs.declared.actor.Client.{Client}
use Rattle.md_workers.specs.Teams.{Ask}
use Rattle.md_clients.specs.Asks.{line_ask, asks_in}

one_more : {A : Type 0} (o : Option A) (xs : List A) → length (cons_option o xs) ≤ length xs + 1
one_more None xs = omega arith
one_more (Some x) xs = omega arith

asks_few : (now offset : ℤ) (lines : List Line) → length (asks_in now offset lines) ≤ length lines
asks_few now offset [] = omega arith
asks_few now offset (line ∷ lines) = omega (arith, asks_few now offset lines, one_more (line_ask now offset line) (asks_in now offset lines))

kept_few : {A : Type 0} (p : A → Bool) (x : A) (xs : List A) (b : Bool) → p x ≡ b → length (filter p (x ∷ xs)) ≤ length (filter p xs) + 1
kept_few p x xs true is = rw is (omega arith)
kept_few p x xs false is = rw is (omega arith)

filter_few : {A : Type 0} (p : A → Bool) (xs : List A) → length (filter p xs) ≤ length xs
filter_few p [] = omega arith
filter_few p (x ∷ xs) = omega (arith, filter_few p xs, kept_few p x xs (p x) refl)

each_few : (asked : List Event) (n : ℕ) (clients : List Client) → length asked ≤ n → AllByRecursion (λ (c : Client). c.events ≡ filter (is_by c.id) asked) clients
    → All (λ (c : Client). length c.events ≤ n) clients
each_few asked n [] few each = All-nil (λ (c : Client). length c.events ≤ n)
each_few asked n (c ∷ clients) few each =
    All-cons (λ (d : Client). length d.events ≤ n) c clients
    (omega (arith, few, ap length each.0, filter_few (is_by c.id) asked))
    (each_few asked n clients few each.1)

-- each client asks at most so many events as there may be lines
pub clients_few : (now offset : ℤ) (lines : List Line) (n : ℕ) (clients : List Client) → length lines ≤ n → Ask (asks_in now offset lines) clients → All (λ (c : Client). length c.events ≤ n) clients
clients_few now offset lines n clients few ask = each_few (asks_in now offset lines) n clients (omega (arith, few, asks_few now offset lines)) ask.each
