-- Facts on the rows of one path.
use Rattle.std.proofs.Common.{◌≡◌, ℕ, zero, suc, true, false, List, [], ◌∷◌, map, length, get_or, refl, sym, ap, ◌∙◌, arith, ◌<◌, ◌-◌}
use Rattle.std.specs.Prelude.{Option, None, Some, is_none, slice_get, slice_set}
use Rattle.std.proofs.lemmas.Option.{slice_get-get_or}
use Rattle.md_store.specs.declared.chain.KeptRow.{KeptRow}
use Rattle.md_store.specs.Chains.{end_or, end_at, EndsBy, IsOrdered}

end_or_same : (v w : ℕ) (o : Option ℕ) → EndsBy w o → end_or v o ≡ o
end_or_same v w None h = absurd h
end_or_same v w (Some e) h = refl

-- a row that has ended is left alone
pub end_at_same : (v w : ℕ) (l : KeptRow) → EndsBy w l.until → end_at v l ≡ l
end_at_same v w l h = ap (λ (u : Option ℕ). record l { until = u }) (end_or_same v w l.until h)

-- only the last row can be open
pub ended_last : (v : ℕ) (chain : List KeptRow) (i : ℕ) (l : KeptRow) → IsOrdered chain → slice_get chain i ≡ Some l → suc i ≡ length chain
    → map (end_at v) chain ≡ slice_set chain i (end_at v l)
ended_last v [] i l o h e = cc
ended_last v (x ∷ []) zero l o h e = let same : x ≡ l = cc in ap (λ (y : KeptRow). end_at v y ∷ []) same
ended_last v (x ∷ []) (suc i) l o h e = cc
ended_last v (x ∷ y ∷ rest) zero l o h e = absurd (omega arith)
ended_last v (x ∷ y ∷ rest) (suc i) l o h e =
    let first : end_at v x ≡ x = end_at_same v y.from x o.0.0.until in
    let others : map (end_at v) (y ∷ rest) ≡ slice_set (y ∷ rest) i (end_at v l) = ended_last v (y ∷ rest) i l o.1 h (omega arith) in
    cc

pub open_ends : (v : ℕ) (o : Option ℕ) → is_none o ≡ true → Some v ≡ end_or v o
open_ends v None h = refl
open_ends v (Some e) h = cc

pub ended_stays : (v : ℕ) (o : Option ℕ) → is_none o ≡ false → o ≡ end_or v o
ended_stays v None h = cc
ended_stays v (Some e) h = refl

-- the last row, as it is read and written
pub ended_at : (v : ℕ) (chain : List KeptRow) (n : ℕ) (l : KeptRow) (u : Option ℕ) → IsOrdered chain → n ≡ length chain → 0 < n → l ≡ get_or chain (n - 1) l → u ≡ end_or v l.until
    → slice_set chain (n - 1) (record { row = l.row; from = l.from; until = u }) ≡ map (end_at v) chain
ended_at v chain n l u o e lt is k =
    let there : slice_get chain (n - 1) ≡ Some l = slice_get-get_or chain (n - 1) l (omega arith) ∙ ap Some (sym is) in
    ap (λ (w : Option ℕ). slice_set chain (n - 1) (record { row = l.row; from = l.from; until = w })) k ∙ sym (ended_last v chain (n - 1) l o there (omega arith))
