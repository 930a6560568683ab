-- Records that lie one after another.
use Rattle.std.proofs.Common.{◌≡◌, ℕ, zero, suc, ◌+◌, ◌-◌, ◌<◌, ◌≤◌, ◌==◌, Bool, true, false, not, nat_lt, ◌||◌, List, [], ◌∷◌, ◌++◌, length, take, drop, get_or, map, filter, Option, Some, None, cond, sum, arith, refl, sym, ap, ap₂, ◌∙◌, append_assoc, take_all, length-take-le, length-drop, take-append-drop}
use Rattle.std.specs.List.{flat_map, fold, list_any, position, position_or_len, zip}
use Rattle.std.proofs.lemmas.List.{take-append-le, drop-append-le, nil_from_length, at_drop_more, drop-drop, drop_all}
use Rattle.std.proofs.lemmas.Bool.{or_parts}
use Rattle.md_value.specs.Values.{is_same}
use Rattle.csv.specs.Records.{field_at}
use Rattle.imp_csv.specs.Records.{cut, cell_of, is_titled}
use Rattle.imp_csv.specs.Tables.{Row, header_of, later_of, is_at, fields_at, fields_of_name}

abbrev Fields : Type 0
Fields = List (List ℕ)

-- ---- sums of lengths

sum_from : (a : ℕ) (ns : List ℕ) → fold (λ s n. s + n) a ns ≡ a + sum ns
sum_from a [] = omega arith
sum_from a (n ∷ ns) = omega (arith, sum_from (a + n) ns, sum_from (0 + n) ns)

pub sum_first : (n : ℕ) (ns : List ℕ) → sum (n ∷ ns) ≡ n + sum ns
sum_first n ns = omega (arith, sum_from (0 + n) ns)

-- one record more
pub cut_more : (ns : List ℕ) (fields row : Fields) → sum ns ≡ length fields → cut (ns ++ length row ∷ []) (fields ++ row) ≡ cut ns fields ++ row ∷ []
unfolding cut
cut_more [] fields row all = let none : fields ≡ [] = nil_from_length fields (omega (arith, all)) in rw none (ap (λ r. r ∷ []) (take_all (length row) row (omega arith)))
cut_more (n ∷ ns) fields row all =
    ap₂ ◌∷◌ (take-append-le n fields row (omega (arith, all, sum_first n ns)))
    (ap (cut (ns ++ length row ∷ [])) (drop-append-le n fields row (omega (arith, all, sum_first n ns))) ∙ cut_more ns (drop n fields) row (omega (arith, all, sum_first n ns, length-drop n fields)))

pub sum_more : (ns : List ℕ) (n : ℕ) → sum (ns ++ n ∷ []) ≡ sum ns + n
sum_more [] n = omega arith
sum_more (k ∷ ns) n = omega (arith, sum_first k (ns ++ n ∷ []), sum_first k ns, sum_more ns n)

-- the fields of all records
pub cut_joined : (ns : List ℕ) (fields : Fields) → sum ns ≡ length fields → flat_map (λ (row : Row). row) (cut ns fields) ≡ fields
unfolding cut
cut_joined [] fields all = sym (nil_from_length fields (omega (arith, all)))
cut_joined (n ∷ ns) fields all =
    ap (λ rest. take n fields ++ rest) (cut_joined ns (drop n fields) (omega (arith, all, sum_first n ns, length-drop n fields))) ∙ take-append-drop n fields

pub cut_count : (ns : List ℕ) (fields : Fields) → length (cut ns fields) ≡ length ns
unfolding cut
cut_count [] fields = refl
cut_count (n ∷ ns) fields = ap suc (cut_count ns (drop n fields))

pub header_none : (ns : List ℕ) (fields : Fields) → length ns < 1 → 0 ≡ length (header_of (cut ns fields))
unfolding cut
header_none [] fields none = refl
header_none (n ∷ ns) fields none = absurd (omega arith)

pub later_none : (ns : List ℕ) (fields : Fields) → length ns < 1 → 0 ≡ length (later_of (cut ns fields))
unfolding cut
later_none [] fields none = refl
later_none (n ∷ ns) fields none = absurd (omega arith)

pub header_some : (ns : List ℕ) (fields : Fields) → sum ns ≡ length fields → 1 ≤ length ns → get_or ns 0 0 ≡ length (header_of (cut ns fields))
unfolding cut
header_some [] fields all some = absurd (omega arith)
header_some (n ∷ ns) fields all some = sym (length-take-le n fields (omega (arith, all, sum_first n ns)))

-- the lengths of the records after the header
abbrev pub after_first : List ℕ → List ℕ
after_first ns = take (length ns - 1) (drop 1 ns)

after_is : (n : ℕ) (ns : List ℕ) → after_first (n ∷ ns) ≡ ns
after_is n ns = take_all (length (n ∷ ns) - 1) ns (omega arith)

pub later_some : (ns : List ℕ) (fields : Fields) → 1 ≤ length ns → length (after_first ns) ≡ length (later_of (cut ns fields))
unfolding cut
later_some [] fields some = absurd (omega arith)
later_some (n ∷ ns) fields some = ap length (after_is n ns) ∙ sym (cut_count ns (drop n fields))

pub rest_sum : (ns : List ℕ) → 1 ≤ length ns → get_or ns 0 0 + sum (after_first ns) ≡ sum ns
rest_sum [] some = absurd (omega arith)
rest_sum (n ∷ ns) some = ap (λ rest. n + sum rest) (after_is n ns) ∙ sym (sum_first n ns)

pub found_some : (name : List ℕ) (ns : List ℕ) (fields : Fields) → 1 ≤ length ns
    → flat_map (fields_at name (take (get_or ns 0 0) fields)) (cut (after_first ns) (drop (get_or ns 0 0) fields)) ≡ fields_of_name name (cut ns fields)
unfolding cut
found_some name [] fields some = absurd (omega arith)
found_some name (n ∷ ns) fields some = ap (λ rest. flat_map (fields_at name (take n fields)) (cut rest (drop n fields))) (after_is n ns)

pub found_none : (name : List ℕ) (ns : List ℕ) (fields : Fields) → length ns < 1 → [] ≡ fields_of_name name (cut ns fields)
unfolding cut
found_none name [] fields none = refl
found_none name (n ∷ ns) fields none = absurd (omega arith)

-- one record after another
row_more : (F : Row → Fields) (lengths : List ℕ) (i n : ℕ) (all : Fields) (start : ℕ) → i < length lengths → n ≡ get_or lengths i 0
    → flat_map F (cut (drop i lengths) (drop start all)) ≡ F (take n (drop start all)) ++ flat_map F (cut (drop (i + 1) lengths) (drop (start + n) all))
unfolding cut
row_more F lengths i n all start lt is =
    at_drop_more (λ ns. flat_map F (cut ns (drop start all))) lengths i 0 lt
    ∙ ap (λ k. F (take k (drop start all)) ++ flat_map F (cut (drop (i + 1) lengths) (drop k (drop start all)))) (sym is)
    ∙ ap (λ rest. F (take n (drop start all)) ++ flat_map F (cut (drop (i + 1) lengths) rest)) (drop-drop n start all)

sum_at : (lengths : List ℕ) (i n : ℕ) → i < length lengths → n ≡ get_or lengths i 0 → sum (drop i lengths) ≡ n + sum (drop (i + 1) lengths)
sum_at lengths i n lt is = at_drop_more sum lengths i 0 lt ∙ ap (λ k. sum (k ∷ drop (i + 1) lengths)) (sym is) ∙ sum_first n (drop (i + 1) lengths)

-- the fields of the next record are within those that are left
pub next_within : (lengths : List ℕ) (i n left : ℕ) → i < length lengths → n ≡ get_or lengths i 0 → left ≡ sum (drop i lengths) → n ≤ left
next_within lengths i n left lt is rest = omega (arith, rest, sum_at lengths i n lt is)

pub later_step : (F : Row → Fields) (lengths : List ℕ) (i n count left : ℕ) (all fields next whole : Fields) → i < length lengths → n ≡ get_or lengths i 0 → left ≡ sum (drop i lengths) → left ≤ length all → count ≡ length all
    → next ≡ fields ++ F (take ((count - (left - n)) - (count - left)) (drop (count - left) all)) → fields ++ flat_map F (cut (drop i lengths) (drop (length all - left) all)) ≡ whole
    → (left - n ≡ sum (drop (i + 1) lengths)) × (left - n ≤ length all) × (next ++ flat_map F (cut (drop (i + 1) lengths) (drop (length all - (left - n)) all)) ≡ whole)
later_step F lengths i n count left all fields next whole lt is rest within counted put invariant =
    let sums = sum_at lengths i n lt is in
    let here : count - left ≡ length all - left = omega (arith, counted) in
    let width : (count - (left - n)) - (count - left) ≡ n = omega (arith, counted, rest, sums, within) in
    let after : (length all - left) + n ≡ length all - (left - n) = omega (arith, rest, sums, within) in
    let more = flat_map F (cut (drop (i + 1) lengths) (drop (length all - (left - n)) all)) in
    let row = F (take n (drop (length all - left) all)) in
    let added : next ≡ fields ++ row = put ∙ ap₂ (λ w s. fields ++ F (take w (drop s all))) width here in
    let whole_is : flat_map F (cut (drop i lengths) (drop (length all - left) all)) ≡ row ++ more = row_more F lengths i n all (length all - left) lt is ∙ ap (λ k. row ++ flat_map F (cut (drop (i + 1) lengths) (drop k all))) after in (
      omega (arith, rest, sums),
      omega (arith, within),
      ap (λ l. l ++ more) added ∙ append_assoc fields row more ∙ ap (λ l. fields ++ l) (sym whole_is) ∙ invariant,
    )

pub no_rows : (F : Row → Fields) (lengths : List ℕ) (i : ℕ) (fields : Fields) → length lengths ≤ i → flat_map F (cut (drop i lengths) fields) ≡ []
unfolding cut
no_rows F lengths i fields ge = ap (λ ns. flat_map F (cut ns fields)) (drop_all i lengths ge)

-- the first record of another length
uneven_prefix : (k : ℕ) (ns : List ℕ) (fields : Fields) → sum ns ≡ length fields → position_or_len (λ (row : Row). not (length row == k)) (cut ns fields) ≡ position_or_len (λ n. not (n == k)) ns
unfolding cut
uneven_prefix k [] fields all = refl
uneven_prefix k (n ∷ ns) fields all =
    ap₂ (λ m rest. cond (not (not (m == k))) (1 + rest) 0) (length-take-le n fields (omega (arith, all, sum_first n ns))) (uneven_prefix k ns (drop n fields) (omega (arith, all, sum_first n ns, length-drop n fields)))

pub uneven_place : (k : ℕ) (ns : List ℕ) (fields : Fields) → sum ns ≡ length fields → position (λ (row : Row). not (length row == k)) (cut ns fields) ≡ position (λ n. not (n == k)) ns
uneven_place k ns fields all = ap₂ (λ place count. cond (nat_lt place count) (Some place) None) (uneven_prefix k ns fields all) (cut_count ns fields)

-- no column has the name
none_at : (name : List ℕ) (header row : Fields) → list_any (is_same name) header ≡ false → fields_at name header row ≡ []
none_at name [] row none = refl
none_at name (column ∷ header) [] none = refl
none_at name (column ∷ header) (field ∷ row) none =
    let parts = or_parts (is_same name column) (list_any (is_same name) header) none in
    rw parts.0 (none_at name header row parts.1)

pub none_found : (name : List ℕ) (header : Fields) (rows : List Row) → list_any (is_same name) header ≡ false → flat_map (fields_at name header) rows ≡ []
none_found name header [] none = refl
none_found name header (row ∷ rows) none = ap₂ ◌++◌ (none_at name header row none) (none_found name header rows none)

-- ---- the fields of one record by their places

pub field_at-drop : (fields : Fields) (n i : ℕ) → field_at fields (n + i) ≡ field_at (drop n fields) i
unfolding field_at
field_at-drop fields zero i = let e : 0 + i ≡ i = omega arith in rw e refl
field_at-drop [] (suc n) i = refl
field_at-drop (f ∷ fs) (suc n) i = let e : suc n + i ≡ suc (n + i) = omega arith in rw e (field_at-drop fs n i)

pub field_at-take : (fields : Fields) (n i : ℕ) → i < n → field_at fields i ≡ field_at (take n fields) i
unfolding field_at
field_at-take fields zero i lt = absurd (omega arith)
field_at-take [] (suc n) i lt = refl
field_at-take (f ∷ fs) (suc n) zero lt = refl
field_at-take (f ∷ fs) (suc n) (suc i) lt = field_at-take fs n i (omega arith)

pub cells_none : (name : List ℕ) (header row : Fields) (i : ℕ) → length header ≤ i → fields_at name (drop i header) (drop i row) ≡ []
cells_none name header row i ge = ap (λ columns. fields_at name columns (drop i row)) (drop_all i header ge)

no_cells : (name : List ℕ) (header : Fields) → fields_at name header [] ≡ []
no_cells name [] = refl
no_cells name (h ∷ hs) = refl

no_cell : (name : List ℕ) (column : Option (List ℕ)) → cell_of name column None ≡ []
no_cell name (Some column) = refl
no_cell name None = refl

no_cells_after : (name : List ℕ) (header : Fields) (n : ℕ) → fields_at name header (drop n []) ≡ []
no_cells_after name header n = ap (fields_at name header) (drop_all n [] (omega arith)) ∙ no_cells name header

pub cells_more : (name : List ℕ) (header row : Fields) (i : ℕ) → i < length header
    → fields_at name (drop i header) (drop i row) ≡ cell_of name (field_at header i) (field_at row i) ++ fields_at name (drop (i + 1) header) (drop (i + 1) row)
unfolding field_at
cells_more name [] row i lt = absurd (omega arith)
cells_more name (h ∷ hs) [] zero lt = sym (no_cells name hs)
cells_more name (h ∷ hs) [] (suc i) lt =
    no_cells name (drop i hs) ∙ sym (no_cells_after name (drop (suc i + 1) (h ∷ hs)) (suc i + 1))
    ∙ ap (λ l. l ++ fields_at name (drop (suc i + 1) (h ∷ hs)) (drop (suc i + 1) [])) (sym (no_cell name (field_at hs i)))
cells_more name (h ∷ hs) (r ∷ rs) zero lt = one (is_at name (h, r))
  where
    one : (b : Bool) → map (λ (cell : List ℕ × List ℕ). cell.1) (cond b ((h, r) ∷ filter (is_at name) (zip hs rs)) (filter (is_at name) (zip hs rs))) ≡ cond b (r ∷ []) [] ++ fields_at name hs rs
    one true = refl
    one false = refl
cells_more name (h ∷ hs) (r ∷ rs) (suc i) lt = let e : suc i + 1 ≡ suc (i + 1) = omega arith in rw e (cells_more name hs rs i (omega arith))

pub titled_more : (name : List ℕ) (header : Fields) (i : ℕ) → i < length header → list_any (is_same name) (drop i header) ≡ (is_titled name (field_at header i) || list_any (is_same name) (drop (i + 1) header))
unfolding field_at
titled_more name [] i lt = absurd (omega arith)
titled_more name (h ∷ hs) zero lt = refl
titled_more name (h ∷ hs) (suc i) lt = let e : suc i + 1 ≡ suc (i + 1) = omega arith in rw e (titled_more name hs i (omega arith))

pub titled_none : (name : List ℕ) (header : Fields) (i : ℕ) → length header ≤ i → list_any (is_same name) (drop i header) ≡ false
titled_none name header i ge = ap (list_any (is_same name)) (drop_all i header ge)
