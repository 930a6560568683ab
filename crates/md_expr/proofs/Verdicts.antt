-- The verdict of a text is what reading it answers, and nothing else is.
use Rattle.std.proofs.Common.{◌≡◌, ◌≢◌, ◌<◌, ◌≤◌, ◌⊎◌, ℕ, Bool, true, false, cond, nat_lt, List, [], length, chars, Option, Some, None, Result, Ok, Err, refl, sym, ap, ◌∙◌, inl, inr, subst, arith}
use Rattle.std.specs.Option.{option_map, option_and_then}
use Rattle.std.specs.Result.{result_ok}
use Rattle.std.proofs.lemmas.Bool.{ltb-true, ltb-false}
use Rattle.std.proofs.lemmas.Bool.Decides.{Decides-ltb, nat_tests}
use Rattle.md_expr_tree.specs.declared.tree.Expr.{Expr}
use Rattle.md_expr_tree.specs.declared.token.Token.{Token}
use Rattle.md_expr_tree.specs.declared.token.Item.{Item}
use Rattle.md_expr_tree.specs.Counts.{comparisons}
use Rattle.md_expr_tree.specs.Reads.{Reads, groups_of}
use Rattle.md_expr_parse.specs.Group.{group}
use Rattle.md_expr_parse.specs.Machine.{run}
use Rattle.md_expr_parse.specs.Survey.{deepest}
use Rattle.md_expr_parse.specs.declared.read.ReadError.{ReadError}
use Rattle.md_expr_parse.specs.declared.read.ReadError.TheVariants as error
use Rattle.md_expr_parse.proofs.Complete.{expression_runs}
use Rattle.md_expr_parse.proofs.Exact.{known, found}
use Rattle.md_expr_print.proofs.Again.{read_again}
use Rattle.md_expr.specs.Verdict.{IsVerdict}
use Rattle.md_expr.specs.Printed.{IsReadBack}
use Rattle.md_expr.specs.Reader.{lex, built, reading, limited, verdict, IsOneVerdict}
use Rattle.md_expr.proofs.Lexed.{lexed, lex_sound}

-- what the text reads as is computed
reads : {text : List ℕ} {e : Expr} (r : Reads text e) → reading text ≡ Some (e, groups_of r)
unfolding reading built
reads {text} {e} r =
    let t = known r.tokens e r.reads in
    let items : option_and_then (group 0) (lex (length text) text) ≡ Some t.is = ap (option_and_then (group 0)) (lexed r.lexes (length text) (omega arith)) ∙ t.items in
    let runs : run false [] [] [] t.is ≡ Some e = sym (ap (option_and_then (run false [] [] [])) t.items) ∙ expression_runs r.reads in
    ap (option_and_then built) items ∙ rw (runs, t.deep) refl

same : (x y : Expr × ℕ) → Some x ≡ Some y → x ≡ y
same x y e = cc

-- the text reads so
record Is (text : List ℕ) (x : Expr × ℕ) : Type 0 where
  reads : Reads text x.0
  deep : x.1 ≡ groups_of reads

reading_sound : (text : List ℕ) (x : Expr × ℕ) → reading text ≡ Some x → Is text x
unfolding reading built
reading_sound text x h = by_tokens (lex (length text) text) refl h
  where
    by_run : (ts : List Token) (is : List Item) → lex (length text) text ≡ Some ts → group 0 ts ≡ Some is → (o : Option Expr) → run false [] [] [] is ≡ o → option_map (λ e. (e, deepest 0 is)) o ≡ Some x → Is text x
    by_run ts is l g None r h = cc
    by_run ts is l g (Some e) r h =
        let f = found ts is e g r in
        let p : (e, deepest 0 is) ≡ x = same (e, deepest 0 is) x h in
        let here : Is text (e, deepest 0 is) = record { reads = record { tokens = ts; lexes = lex_sound (length text) text ts l; reads = f.reads }; deep = f.deep } in
        subst (Is text) p here

    by_items : (ts : List Token) → lex (length text) text ≡ Some ts → (o : Option (List Item)) → group 0 ts ≡ o → option_and_then built o ≡ Some x → Is text x
    by_items ts l None g h = cc
    by_items ts l (Some is) g h = by_run ts is l g (run false [] [] [] is) refl h

    by_tokens : (o : Option (List Token)) → lex (length text) text ≡ o → option_and_then built (option_and_then (group 0) o) ≡ Some x → Is text x
    by_tokens None l h = cc
    by_tokens (Some ts) l h = by_items ts l (group 0 ts) refl h

-- what stands within the limits, from the tests
within : Bool → Bool → Expr → Result Expr ReadError
within deep many e = cond deep (Err error.TooDeep) (cond many (Err error.TooMany) (Ok e))

limits_answer : (text : List ℕ) (x : Expr × ℕ) → length text ≤ 65536 → Is (chars text) x → (deep many : Bool) → nat_lt 64 x.1 ≡ deep → nat_lt 4096 (comparisons x.0) ≡ many → IsVerdict (within deep many x.0) text
unfolding within
limits_answer text x short is true many d m = (short, x.0, is.reads, omega (arith, is.deep, ltb-true 64 x.1 d))
limits_answer text x short is false true d m = (short, x.0, is.reads, omega (arith, is.deep, ltb-false 64 x.1 d), ltb-true 4096 (comparisons x.0) m)
limits_answer text x short is false false d m = (short, is.reads, omega (arith, is.deep, ltb-false 64 x.1 d), ltb-false 4096 (comparisons x.0) m)

short_answers : (text : List ℕ) → length text ≤ 65536 → (o : Option (Expr × ℕ)) → reading (chars text) ≡ o → IsVerdict (limited o) text
unfolding limited within
short_answers text short None h = (short, λ e r. let s = reads r in cc)
short_answers text short (Some x) h = limits_answer text x short (reading_sound (chars text) x h) (nat_lt 64 x.1) (nat_lt 4096 (comparisons x.0)) refl refl

verdict-long : (text : List ℕ) → 65536 < length text → verdict text ≡ Err error.TooLong
unfolding verdict
verdict-long text h = let long : nat_lt 65536 (length text) ≡ true = (Decides-ltb 65536 (length text)).1 h in rw long refl

verdict-short : (text : List ℕ) → length text ≤ 65536 → verdict text ≡ limited (reading (chars text))
unfolding verdict
verdict-short text h = let short : nat_lt 65536 (length text) ≡ false = grind (arith, nat_tests) in rw short refl

verdict_answers : (text : List ℕ) → IsVerdict (verdict text) text
verdict_answers text = go (nat_lt 65536 (length text)) refl
  where
    go : (long : Bool) → nat_lt 65536 (length text) ≡ long → IsVerdict (verdict text) text
    go true h = let l = ltb-true 65536 (length text) h in subst (λ r. IsVerdict r text) (sym (verdict-long text l)) l
    go false h = let s = ltb-false 65536 (length text) h in subst (λ r. IsVerdict r text) (sym (verdict-short text s)) (short_answers text s (reading (chars text)) refl)

deep : (e : Expr) (groups : ℕ) → 64 < groups → limited (Some (e, groups)) ≡ Err error.TooDeep
unfolding limited
deep e groups h = let t : nat_lt 64 groups ≡ true = (Decides-ltb 64 groups).1 h in rw t refl

many : (e : Expr) (groups : ℕ) → groups ≤ 64 → 4096 < comparisons e → limited (Some (e, groups)) ≡ Err error.TooMany
unfolding limited
many e groups h m =
    let t : nat_lt 64 groups ≡ false = grind (arith, nat_tests) in
    let u : nat_lt 4096 (comparisons e) ≡ true = (Decides-ltb 4096 (comparisons e)).1 m in
    rw (t, u) refl

fine : (e : Expr) (groups : ℕ) → groups ≤ 64 → comparisons e ≤ 4096 → limited (Some (e, groups)) ≡ Ok e
unfolding limited
fine e groups h m =
    let t : nat_lt 64 groups ≡ false = grind (arith, nat_tests) in
    let u : nat_lt 4096 (comparisons e) ≡ false = grind (arith, nat_tests) in
    rw (t, u) refl

none : (text : List ℕ) → ((e : Expr) → Reads text e → ⊥) → (o : Option (Expr × ℕ)) → reading text ≡ o → limited o ≡ Err error.NotExpression
unfolding limited
none text h None e = refl
none text h (Some x) e = absurd (h x.0 (reading_sound text x e).reads)

-- an answer is the verdict
pub is_verdict : (text : List ℕ) (r : Result Expr ReadError) → IsVerdict r text → (r ≡ verdict text) ⊎ (r ≡ Err error.Memory)
is_verdict text (Ok e) a = inl (sym (verdict-short text a.0 ∙ ap limited (reads a.1) ∙ fine e (groups_of a.1) a.2 a.3))
is_verdict text (Err error.TooLong) a = inl (sym (verdict-long text a))
is_verdict text (Err error.NotExpression) a = inl (sym (verdict-short text a.0 ∙ none (chars text) a.1 (reading (chars text)) refl))
is_verdict text (Err error.TooDeep) a = inl (sym (verdict-short text a.0 ∙ ap limited (reads a.2) ∙ deep a.1 (groups_of a.2) a.3))
is_verdict text (Err error.TooMany) a = inl (sym (verdict-short text a.0 ∙ ap limited (reads a.2) ∙ many a.1 (groups_of a.2) a.3 a.4))
is_verdict text (Err error.Memory) a = inr refl

within_decided : (deep many : Bool) (e : Expr) → within deep many e ≢ Err error.Memory
unfolding within
within_decided true many e h = cc
within_decided false true e h = cc
within_decided false false e h = cc

limited_decided : (o : Option (Expr × ℕ)) → limited o ≢ Err error.Memory
unfolding limited within
limited_decided None h = cc
limited_decided (Some x) h = within_decided (nat_lt 64 x.1) (nat_lt 4096 (comparisons x.0)) x.0 h

verdict_decided : (text : List ℕ) → verdict text ≢ Err error.Memory
verdict_decided text h = go (nat_lt 65536 (length text)) refl
  where
    go : (long : Bool) → nat_lt 65536 (length text) ≡ long → ⊥
    go true l = let o = verdict-long text (ltb-true 65536 (length text) l) in cc
    go false l = limited_decided (reading (chars text)) (sym (verdict-short text (ltb-false 65536 (length text) l)) ∙ h)

pub is_one_verdict : (text : List ℕ) → IsOneVerdict text
is_one_verdict text = record { answers = verdict_answers text; only = is_verdict text; decided = verdict_decided text }

-- what a reader that answers the verdict, unless memory runs out, tells of it

pub verdict_read : (text : List ℕ) (e : Expr) → (Ok e ≡ verdict text) ⊎ (Ok e ≡ Err error.Memory) → result_ok (verdict text) ≡ Some e
verdict_read text e (inl h) = sym (ap result_ok h)
verdict_read text e (inr h) = cc

pub verdict_refused : (text : List ℕ) (x : ReadError) → x ≢ error.Memory → (Err x ≡ verdict text) ⊎ ◌≡◌ {A = Result Expr ReadError} (Err x) (Err error.Memory) → result_ok (verdict text) ≡ None
verdict_refused text x other (inl h) = sym (ap result_ok h)
verdict_refused text x other (inr h) = let same : x ≡ error.Memory = cc in absurd (other same)

-- what is printed is read back
pub read_back : (e : Expr) (text : List ℕ) → IsReadBack e text
read_back e text fit is short groups few =
    let r : Reads (chars text) e = subst (λ (cs : List ℕ). Reads cs e) (sym is) (read_again e fit) in
    let answers : IsVerdict (Ok e) text = (short, r, groups r, few) in
    elim ((is_one_verdict text).only (Ok e) answers) [
      | inl same ↦ sym same
      | inr want ↦ let wrong : ◌≡◌ {A = Result Expr ReadError} (Ok e) (Err error.Memory) = want in cc (wrong)
    ]
