-- Every good book keeps to the invariant and passes refusals 8 and 4 at every call, so that an item up to its bound is taken while the book is
-- awake, and a verdict for a window and an amount above 0 is told, or refused with 5 alone, exactly where the window is longer than kept.
-- Assumes nothing.
use Prim.Native.Nat.{ℕ, ◌≤◌, ◌<◌}
use mathlib.Core.List.{List}
use mathlib.Core.Path.{◌≡◌}
use lib.ListN.{length}
use Rattle.refusals.specs.Numbers.{window_too_long}
use Rattle.refusals.specs.Call.{refusal_of, result_of}
use Rattle.ring.proofs.Promises.{length_cleared}
use Rattle.book.specs.declared.Book.{Book}
use Rattle.book.specs.Answers.{Refused}
use Rattle.book.specs.Derived.{field_width, slot_count}
use Rattle.book.specs.Resting.{awake}
use Rattle.book.specs.Record.{held_in}
use Rattle.book.specs.Sound.{Usable}
use Rattle.book.specs.Calls.{add_call, verdict_call}
use Rattle.book.proofs.Promises.{book_lent, opened_sound, added_usable, marked_usable, add_taken, verdict_taken, verdict_long}
use Rattle.coarse.proofs.Promises.{coarsened_usable}
use Rattle.salvage.proofs.Promises.{salvaged_usable}
use Rattle.demands.specs.History.{Good}
use Rattle.demands.proofs.Invariant.{Invariant}
use Rattle.demands.proofs.InvariantKept.{opened_keeps, added_keeps, marked_keeps}
use Rattle.demands.proofs.CoarserKeeps.{coarser_keeps}
use Rattle.demands.proofs.SalvageKeeps.{salvage_keeps}
use Rattle.demands.proofs.GoodInduction.{good_induction}

pub good_invariant : (book : Book) (ring items : List ℕ) → Good book ring items → Invariant book (held_in book ring) items
good_invariant =
    good_induction (λ book ring items. Invariant book (held_in book ring) items)
    (λ bound n tolerance lent ranges room. opened_keeps bound n tolerance _ ranges)
    (λ book ring items item inv usable small. (added_keeps book ring items inv item usable small).inv)
    (λ book ring items mark inv. marked_keeps book _ items mark inv)
    (λ book ring items times second inv usable can room. coarser_keeps book ring items inv usable times can second room)
    salvage_keeps

pub good_usable : (book : Book) (ring items : List ℕ) → Good book ring items → Usable book (length ring)
good_usable =
    good_induction (λ book ring items. Usable book (length ring))
    (λ bound n tolerance lent ranges room.
    (let whole = book_lent bound n tolerance (length lent) ranges room in
    record {
      sound = opened_sound bound n tolerance ranges;
      room = rw (length_cleared (field_width bound tolerance) (slot_count bound n tolerance) lent whole) room;
    }))
    (λ book ring items item before usable small. added_usable book ring item usable small)
    (λ book ring items mark usable. marked_usable book (length ring) mark usable)
    (λ book ring items times second before usable can room. coarsened_usable book ring times usable can second room)
    (λ book ring truth items before usable left_true. salvaged_usable book ring usable)

module _ (book : Book) (ring items : List ℕ) (good : Good book ring items) where
  pub item_taken : (item : ℕ) → item ≤ book.bound → book.resting ≡ awake → refusal_of (add_call book ring item) ≡ 0
  item_taken item small up = add_taken book ring item (good_usable book ring items good) small up

  module _ (window amount : ℕ) (some : 0 < window) (asked : 0 < amount) where
    -- refused with 5 while the window is longer than kept …
    pub verdict_5 : book.kept < window → result_of (verdict_call book ring window amount) ≡ Refused window_too_long
    verdict_5 longer = verdict_long book ring window amount (good_usable book ring items good) asked some longer

    -- … and told from then on
    pub verdict_told : window ≤ book.kept → refusal_of (verdict_call book ring window amount) ≡ 0
    verdict_told kept = verdict_taken book ring window amount (good_usable book ring items good) asked some kept
