-- Tables with equal intervals are equal.
use Rattle.std.proofs.Common.{◌≡◌, ◌≤◌, ◌<◌, ◌∙◌, ℕ, length, get_or, arith, sym, ap}
use Rattle.whole_numbers.proofs.ListLaws.{equal_lists}
use Rattle.sym_blocks.specs.Tables.{SymTable, entry_at, before, lower_place, zero_interval}
use Rattle.sym_blocks.proofs.Rows.{pair_at, place_lower}

-- the interval at a place of the list is that of its pair
at_place : (t : SymTable) (i j k : ℕ) → j ≤ i → lower_place i j ≡ k → get_or t.entries k zero_interval ≡ entry_at t i j
at_place t i j k lower is = ap (λ p. get_or t.entries p zero_interval) (sym is ∙ sym (place_lower i j lower))

in_list : (n : ℕ) (a b : SymTable) → ((i j : ℕ) → i < n → j < n → entry_at a i j ≡ entry_at b i j) → (k : ℕ) → k < before n → get_or a.entries k zero_interval ≡ get_or b.entries k zero_interval
in_list n a b same k l =
    let p = pair_at n k l in
    at_place a p.row p.column k p.lower p.is ∙ same p.row p.column p.within (let w = p.within in let c = p.lower in omega arith) ∙ sym (at_place b p.row p.column k p.lower p.is)

pub equal_symmetric : (n : ℕ) (a b : SymTable) → a.size ≡ n → b.size ≡ n → length a.entries ≡ before n → length b.entries ≡ before n → ((i j : ℕ) → i < n → j < n → entry_at a i j ≡ entry_at b i j) → a ≡ b
equal_symmetric n a b one other few many same =
    let sizes : a.size ≡ b.size = one ∙ sym other in
    let entries : a.entries ≡ b.entries = equal_lists zero_interval (before n) a.entries b.entries few many (in_list n a b same) in
    ap (λ m. (let t : SymTable = record { size = m; entries = a.entries } in t)) sizes ∙ ap (λ ws. (let t : SymTable = record { size = b.size; entries = ws } in t)) entries
