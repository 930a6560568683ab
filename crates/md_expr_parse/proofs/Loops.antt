-- One turn of each loop.
use Rattle.std.proofs.Common.{◌≡◌, ℕ, zero, suc, List, [], ◌∷◌, ◌++◌, drop, Option, Some, None, refl, sym, ap, ◌∙◌, append_assoc}
use Rattle.std.specs.Option.{option_map, option_and_then}
use Rattle.md_expr_tree.specs.declared.tree.Expr.{Expr}
use Rattle.md_expr_tree.specs.declared.token.Token.{Token}
use Rattle.md_expr_tree.specs.declared.token.Item.{Item}
use Rattle.md_expr_parse.specs.declared.build.Builder.{Builder}
use Rattle.md_expr_parse.specs.Group.{Takes, item_at, group}
use Rattle.md_expr_parse.specs.Resume.{resume}

abbrev Steps : Builder → Item → Option Builder → Type 0
Steps b i o = (is : List Item) → resume b (i ∷ is) ≡ option_and_then (λ n. resume n is) o

pub stepped : (b n : Builder) (i : Item) (is js : List Item) (o : Option Builder) (r : Option Expr) → resume b js ≡ r → js ≡ i ∷ is → Steps b i o → o ≡ Some n → resume n is ≡ r
stepped b n i is js o r h p s e = sym (s is ∙ ap (option_and_then (λ n. resume n is)) e) ∙ sym (ap (resume b) p) ∙ h

pub stuck : (b : Builder) (i : Item) (is js : List Item) (o : Option Builder) (r : Option Expr) → resume b js ≡ r → js ≡ i ∷ is → Steps b i o → o ≡ None → None ≡ r
stuck b i is js o r h p s e = sym (s is ∙ ap (option_and_then (λ n. resume n is)) e) ∙ sym (ap (resume b) p) ∙ h

group_skip : (k : ℕ) (ts : List Token) → group k ts ≡ group 0 (drop k ts)
group_skip zero [] = refl
group_skip (suc k) [] = refl
group_skip zero (t ∷ ts) = refl
group_skip (suc k) (t ∷ ts) = group_skip k ts

add : (o : Option (List Item)) (prefix : List Item) (i : Item) → option_map (λ is. (prefix ++ i ∷ []) ++ is) o ≡ option_map (λ is. prefix ++ is) (option_map (λ is. i ∷ is) o)
add None prefix i = refl
add (Some is) prefix i = ap Some (append_assoc prefix (i ∷ []) is)

pub added : (prefix back : List Item) (t : Token) (ts rest new : List Token) (i : Item) (r : Option (List Item)) → option_map (λ is. prefix ++ is) (group 0 ts) ≡ r → ts ≡ t ∷ rest → Takes (Some i) (item_at t rest) rest new → back ≡ prefix ++ i ∷ [] → option_map (λ is. back ++ is) (group 0 new) ≡ r
added prefix back t ts rest new i r h p took b =
    let k = took.0 in
    let here : group 0 (t ∷ rest) ≡ option_map (λ is. i ∷ is) (group k rest) = ap (option_and_then (λ found. option_map (λ is. found.0 ∷ is) (group found.1 rest))) took.1 in
    ap (λ b. option_map (λ is. b ++ is) (group 0 new)) b
    ∙ ap (λ n. option_map (λ is. (prefix ++ i ∷ []) ++ is) (group 0 n)) took.2
    ∙ sym (ap (option_map (λ is. (prefix ++ i ∷ []) ++ is)) (group_skip k rest))
    ∙ add (group k rest) prefix i
    ∙ sym (ap (option_map (λ is. prefix ++ is)) here)
    ∙ sym (ap (λ ts. option_map (λ is. prefix ++ is) (group 0 ts)) p)
    ∙ h
