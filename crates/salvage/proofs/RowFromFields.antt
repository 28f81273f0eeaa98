-- The rebuilt row: its entries, that a row rebuilt from the present fields is kept, wherever head stands, and what stays of it.
-- Assumes nothing.
use Prim.Native.Nat.{ℕ, zero, suc, ◌+◌, ◌-◌, ◌*◌, ◌≤◌, ◌<◌, min}
use native.Mathlib.Omega.{arith}
use mathlib.Core.List.{List, [], ◌∷◌, ◌++◌}
use mathlib.Core.Logic.{◌⊎◌, inl, inr}
use mathlib.Core.Path.{◌≡◌, refl, sym, ap, ap₂, ◌∙◌}
use lib.ListN.{length, get_or, set, drop, length-append, length-drop, get_or-append, drop_of_length-le}
use Rattle.std.proofs.Common.{append-nil}
use lib.Seq.{drop-cons, append_snoc, set_at, drop_at, get_or_at}
use Rattle.book.proofs.Promises.{le_or_lt}
use Rattle.sums.specs.Row.{group, entries_for, entry_at, group_end, sum_from, sum_to, RestStays}
use Rattle.sums.specs.Rule.{stored_at}
use Rattle.sums.specs.RowKept.{End, Kept}
use Rattle.sums.proofs.Promises.{kept_filled, stored_0, stored_entry, group_end_lem, from_none, between, to_same}
use Rattle.salvage.specs.Rebuilt.{group_sums, rebuilt_row}

-- THE END OF GROUP k: 32 slots behind its first, or the last slot's
pub end_of_group : (slots k : ℕ) → k * group < slots → group_end slots (k * group) ≡ min slots ((k + 1) * group)
end_of_group slots k below = by (group_end_lem slots (k * group) below).is_end
  where
    by : End slots (group_end slots (k * group)) → group_end slots (k * group) ≡ min slots ((k + 1) * group)
    by (inl whole) =
        let end = group_end_lem slots (k * group) below in
        omega (arith, end.behind, end.within, end.close)
    by (inr last) = omega (arith, (group_end_lem slots (k * group) below).close)

module _ (slots : ℕ) (held : ℕ → ℕ) where
  -- THE FIRST GROUPS: one entry each
  sums_length : (groups : ℕ) → length (group_sums slots held groups) ≡ groups
  unfolding group_sums
  sums_length zero = refl
  sums_length (suc groups) =
      length-append (group_sums slots held groups) (sum_to held (group_end slots (groups * group)) ∷ []) ∙ omega (arith, sums_length groups)

  -- no group, no entry: the row as it was
  pub sums_none : (row : List ℕ) → group_sums slots held 0 ++ drop 0 row ≡ row
  unfolding group_sums
  sums_none row = refl

  -- one more: its sum goes into the next entry
  pub sums_more : (row : List ℕ) (groups : ℕ) → groups < length row
      → set (group_sums slots held groups ++ drop groups row) groups (sum_to held (group_end slots (groups * group)))
      ≡ group_sums slots held (suc groups) ++ drop (suc groups) row
  unfolding group_sums
  sums_more row groups lt =
      let first = group_sums slots held groups in
      let new = sum_to held (group_end slots (groups * group)) in
      ap (λ (l : List ℕ). set (first ++ l) groups new) (drop-cons row groups 0 lt)
      ∙ set_at first (get_or row groups 0) (drop (suc groups) row) new groups (sums_length groups)
      ∙ sym (append_snoc first new (drop (suc groups) row))

  -- entry k of them
  sums_entry : (groups k : ℕ) → k < groups → get_or (group_sums slots held groups) k 0 ≡ sum_to held (group_end slots (k * group))
  unfolding group_sums
  sums_entry zero k lt = absurd (omega arith)
  sums_entry (suc groups) k lt = by (le_or_lt groups k) (sums_entry groups k)
    where
      by : (groups ≤ k) ⊎ (k < groups) → (k < groups → get_or (group_sums slots held groups) k 0 ≡ sum_to held (group_end slots (k * group)))
          → get_or (group_sums slots held groups ++ sum_to held (group_end slots (groups * group)) ∷ []) k 0 ≡ sum_to held (group_end slots (k * group))
      by (inl last) among =
          let same : groups ≡ k = omega arith in
          get_or_at (group_sums slots held groups) (sum_to held (group_end slots (groups * group))) [] 0 k (sums_length groups ∙ same)
          ∙ ap (λ (g : ℕ). sum_to held (group_end slots (g * group))) same
      by (inr earlier) among =
          get_or-append (group_sums slots held groups) (sum_to held (group_end slots (groups * group)) ∷ []) 0 k
          (omega (arith, sums_length groups))
          ∙ among earlier

-- GROUP BY GROUP, as the code goes: where the groups end that are summed, the sum of the fields before that end, and the entries
pub record Summed (slots : ℕ) (held : ℕ → ℕ) (lent entries : List ℕ) (groups sum from : ℕ) : Type 0 where
  pub ends : from ≡ min slots (groups * group)
  pub sum_is : sum ≡ sum_to held from
  pub entries_are : entries ≡ group_sums slots held groups ++ drop groups lent

module _ (slots : ℕ) (held : ℕ → ℕ) (lent : List ℕ) where
  pub summed_none : Summed slots held lent lent 0 0 0
  summed_none = record { ends = omega arith; sum_is = sym (from_none held 0); entries_are = sym (sums_none slots held lent) }

module _ {slots : ℕ} {held : ℕ → ℕ} {lent entries : List ℕ} {groups sum from : ℕ} (s : Summed slots held lent entries groups sum from) where
  -- one more
  module _ (used : groups < entries_for slots) (has_entry : groups < length lent) {end : ℕ} (end_is : end ≡ group_end slots from) where
    here : from ≡ groups * group
    here = omega (arith, s.ends)

    pub group_ahead : (from < end) × (end ≤ slots)
    group_ahead =
        let lies = group_end_lem slots from (omega (arith, here)) in
        (omega (arith, end_is, lies.behind), omega (arith, end_is, lies.within))

    pub with_group : {own : ℕ} → own ≡ sum_from held from (end - from) → sum + own ≡ sum_to held end
    with_group {own} own_is =
        let whole = between held from end (omega (arith, group_ahead.0)) in
        omega (arith, s.sum_is, own_is, whole)

    pub summed_more : {own : ℕ} → own ≡ sum_from held from (end - from)
        → Summed slots held lent (set entries groups (sum + own)) (groups + 1) (sum + own) end
    summed_more own_is =
        let next : groups + 1 ≡ suc groups = omega arith in
        let its_end = ap (group_end slots) here in
        record {
          ends = end_is ∙ its_end ∙ end_of_group slots groups (omega arith);
          sum_is = with_group own_is;
          entries_are =
              ap₂ (λ (r : List ℕ) (v : ℕ). set r groups v) s.entries_are (with_group own_is ∙ ap (sum_to held) (end_is ∙ its_end))
              ∙ sums_more slots held lent groups has_entry
              ∙ ap (λ (k : ℕ). group_sums slots held k ++ drop k lent) (sym next);
        }

  -- all of them
  pub summed_all : groups ≡ entries_for slots → length lent ≤ groups → entries ≡ group_sums slots held (entries_for slots)
  summed_all all past =
      s.entries_are ∙ ap (λ (rest : List ℕ). group_sums slots held groups ++ rest) (drop_of_length-le lent past)
      ∙ append-nil (group_sums slots held groups) ∙ ap (group_sums slots held) all

module _ (slots : ℕ) (held : ℕ → ℕ) (row : List ℕ) (room : entries_for slots ≤ length row) where
  -- each used entry is the sum of the fields from slot 0 to its group's end
  pub entry_is : (k : ℕ) → k < entries_for slots → get_or (rebuilt_row slots held row) k 0 ≡ sum_to held (group_end slots (k * group))
  unfolding rebuilt_row
  entry_is k used =
      get_or-append (group_sums slots held (entries_for slots)) (drop (entries_for slots) row) 0 k
      (omega (arith, sums_length slots held (entries_for slots)))
      ∙ sums_entry slots held (entries_for slots) k used

  -- no entry that is not used changes, and none comes or goes
  pub rebuilt_rest : RestStays (entries_for slots) row (rebuilt_row slots held row)
  unfolding rebuilt_row
  rebuilt_rest =
      let used = sums_length slots held (entries_for slots) in
      record {
        same_length =
            length-append (group_sums slots held (entries_for slots)) (drop (entries_for slots) row)
            ∙ omega (arith, used, length-drop (entries_for slots) row, room);
        same_rest = drop_at (group_sums slots held (entries_for slots)) (drop (entries_for slots) row) (entries_for slots) used;
      }

  -- at every end stands the sum of the fields before it
  at_end : (e : ℕ) → End slots e → e ≤ slots → stored_at (rebuilt_row slots held row) e ≡ sum_to held e
  at_end zero end le = stored_0 (rebuilt_row slots held row) ∙ sym (from_none held 0)
  at_end (suc e) end le =
      stored_entry (rebuilt_row slots held row) (suc e) (omega arith)
      ∙ entry_is (entry_at (suc e)) (omega arith)
      ∙ ap (λ (t : ℕ). sum_to held t) (its_own end)
    where
      its_own : End slots (suc e) → group_end slots (entry_at (suc e) * group) ≡ suc e
      its_own (inl whole) = end_of_group slots (entry_at (suc e)) (omega arith) ∙ omega arith
      its_own (inr last) = end_of_group slots (entry_at (suc e)) (omega arith) ∙ omega arith

  -- so the row is kept, wherever head stands
  pub rebuilt_kept : (head : ℕ) → head ≤ slots → Kept slots head held (rebuilt_row slots held row)
  rebuilt_kept head within = kept_filled slots head held (rebuilt_row slots held row) within at_end

  -- rebuilt once more from the same fields it stays
  pub rebuilt_again : rebuilt_row slots held (rebuilt_row slots held row) ≡ rebuilt_row slots held row
  unfolding rebuilt_row
  rebuilt_again = ap (λ (rest : List ℕ). group_sums slots held (entries_for slots) ++ rest) rebuilt_rest.same_rest

-- it sees nothing but the fields of its slots
pub rebuilt_same : (slots : ℕ) (held held' : ℕ → ℕ) (row : List ℕ) → ((slot : ℕ) → slot < slots → held slot ≡ held' slot)
    → rebuilt_row slots held row ≡ rebuilt_row slots held' row
unfolding rebuilt_row group_sums
rebuilt_same slots held held' row same = ap (λ (l : List ℕ). l ++ drop (entries_for slots) row) (sums_same (entries_for slots) (omega arith))
  where
    sums_same : (groups : ℕ) → groups ≤ entries_for slots → group_sums slots held groups ≡ group_sums slots held' groups
    sums_same zero le = refl
    sums_same (suc groups) le =
        let within = (group_end_lem slots (groups * group) (omega arith)).within in
        ap₂ (λ (l : List ℕ) (x : ℕ). l ++ x ∷ []) (sums_same groups (omega arith))
        (to_same held held' (group_end slots (groups * group)) (λ slot lt. same slot (omega arith)))
