-- What the calls upon a book hand back and leave: a refused item or run the record as it came; a call that only asks the ring as it was lent.
-- Assumes nothing.
use Rattle.std.proofs.Common.{◌≡◌, ℕ, List, refl}
use Rattle.book.specs.declared.Book.{Book}
use Rattle.book.specs.Calls.{add_call, run_call, total_call, how_far_call, verdict_call}

module _ (book : Book) (ring : List ℕ) where
  pub add_back : (item : ℕ) → ((number : ℕ) → ((add_call book ring item).back number).book ≡ book) × ((add_call book ring item).lent ≡ ring)
  unfolding add_call
  add_back item = (λ number. refl, refl)

  pub run_back : (counts : List ℕ)
      → ((number : ℕ) → ((run_call book ring counts).back number).book ≡ book) × ((run_call book ring counts).lent ≡ ring)
  unfolding run_call
  run_back counts = (λ number. refl, refl)

  pub total_asks : (window : ℕ) → ((total_call book ring window).left ≡ ring) × ((total_call book ring window).lent ≡ ring)
  unfolding total_call
  total_asks window = (refl, refl)

  pub far_asks : (amount : ℕ) → ((how_far_call book ring amount).left ≡ ring) × ((how_far_call book ring amount).lent ≡ ring)
  unfolding how_far_call
  far_asks amount = (refl, refl)

  pub verdict_asks : (window amount : ℕ) → ((verdict_call book ring window amount).left ≡ ring) × ((verdict_call book ring window amount).lent ≡ ring)
  unfolding verdict_call
  verdict_asks window amount = (refl, refl)
