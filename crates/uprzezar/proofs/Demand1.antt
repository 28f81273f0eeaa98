-- Demand 1 and uniqueness of each exported call. Where the statement is that of the call behind it, so are its theorems: `ring-calls`,
-- `book-calls`, `sums-calls`, `trend-calls`, `coarse-calls`, `salvage-calls`, `zones-calls`, `image-calls`, `score-calls`, `lit-calls` and
-- `page-calls` say which row it is. The look into a byte refuses nothing, and has no row: of it uniqueness is all. `Post` is the statement itself, as
-- it stands at the function; the two calls for zones have none, and their statements are compared with what is promised.
-- Assumes nothing.
use Prim.Native.Nat.{ℕ}
use mathlib.Core.List.{List}
use mathlib.Core.Path.{◌≡◌, refl, sym, ap, ◌∙◌}
use seplogic.Ra.Ura.{Ura}
use base.Logic.{SProp}
use prog.Memory.{Memory}
use prog.Routine.{Routine}
use types.Logic.{Logic}
use contract.Lifetimes.{Lfts}
use contract.Monad.{Fun, fact}
use denote.Triple.Entry.{Args, Res}
use denote.Triple.Clauses.{AtExit}
use Rattle.refusals.specs.Call.{seen_as}
use Rattle.refusals.specs.Demand1.{Settles, Promised}
use Rattle.refusals.proofs.Calls.{promised, seen_promised}
use Rattle.ring.specs.Calls.{clear_call, read_call, write_call, sum_call}
use Rattle.ring.specs.declared.Answer.{Answer}
use Rattle.ring.proofs.Demand1 as ring-calls
use Rattle.book.specs.declared.told.Updated.{Updated}
use Rattle.book.specs.declared.told.Ran.{Ran}
use Rattle.book.specs.declared.told.Figure.{Figure}
use Rattle.book.specs.declared.told.Window.{Window}
use Rattle.book.specs.declared.shape.Shaped.{Shaped}
use Rattle.book.specs.Resting.{awake, at_rest}
use Rattle.book.specs.Shape.{shape_call}
use Rattle.book.specs.Calls.{open_call, add_call, run_call, rest_call, wake_call, total_call, how_far_call, verdict_call}
use Rattle.book.proofs.Promises as book-calls
use Rattle.sums.specs.declared.told.Summed.{Summed}
use Rattle.sums.specs.Calls.{open_row_call, add_row_call, run_row_call, total_row_call}
use Rattle.sums.proofs.Promises as sums-calls
use Rattle.trend.specs.declared.Answer as trend-answer
use Rattle.trend.specs.Trend.{trend_call}
use Rattle.trend.proofs.Promises as trend-calls
use Rattle.coarse.specs.declared.told.Coarser.{Coarser}
use Rattle.coarse.specs.Calls.{coarsen_call, coarsen_row_call}
use Rattle.coarse.proofs.Promises as coarse-calls
use Rattle.salvage.specs.declared.told.Salvaged.{Salvaged}
use Rattle.salvage.specs.Calls.{salvage_call, salvage_row_call}
use Rattle.salvage.proofs.Promises as salvage-calls
use Rattle.zones.specs.declared.told.Zoned.{Zoned}
use Rattle.zones.specs.Statements.{all_call, one_call, AllSays, OneSays}
use Rattle.zones.proofs.Promises as zones-calls
use Rattle.image.specs.declared.told.Numbers.{Numbers}
use Rattle.image.specs.Reading.{header_call}
use Rattle.image.proofs.Demand1 as image-calls
use Rattle.score.specs.Calls.{score_call}
use Rattle.score.specs.Masked.{masked_call}
use Rattle.score.specs.declared.Answer as score-answer
use Rattle.score.proofs.Demand1 as score-calls
use Rattle.lit.specs.declared.Answer as lit-answer
use Rattle.lit.specs.Calls.{rank_call, select_call, coarse_rank_call, coarse_select_call}
use Rattle.lit.proofs.Demand1 as lit-calls
use Rattle.page.specs.Calls.{lent_by, show_call}
use Rattle.page.proofs.Promises as page-calls
use Rattle.uprzezar.specs.Crossing.{as_numbers, place_in, shown_as}
use Rattle.uprzezar.specs.declared.Ruled.{Ruled}
use Rattle.uprzezar.specs.declared.Raster.{Raster}
use Rattle.uprzezar.specs.declared.Shown.{Shown}
use Rattle.uprzezar.proofs.of_ring.uprzezar_ring_clear.Reads as clear_reads
use Rattle.uprzezar.proofs.of_ring.uprzezar_ring_read.Reads as read_reads
use Rattle.uprzezar.proofs.of_ring.uprzezar_ring_write.Reads as write-reads
use Rattle.uprzezar.proofs.of_ring.uprzezar_ring_sum.Reads as sum-reads
use Rattle.uprzezar.proofs.of_book.uprzezar_shape.Reads as shape-reads
use Rattle.uprzezar.proofs.of_book.uprzezar_open.Reads as open_reads
use Rattle.uprzezar.proofs.of_book.uprzezar_add.Reads as add_reads
use Rattle.uprzezar.proofs.of_book.uprzezar_run.Reads as run_reads
use Rattle.uprzezar.proofs.of_book.uprzezar_rest.Reads as rest-reads
use Rattle.uprzezar.proofs.of_book.uprzezar_wake.Reads as wake-reads
use Rattle.uprzezar.proofs.of_book.uprzezar_total.Reads as total_reads
use Rattle.uprzezar.proofs.of_book.uprzezar_far.Reads as far_reads
use Rattle.uprzezar.proofs.of_book.uprzezar_verdict.Reads as verdict-reads
use Rattle.uprzezar.proofs.of_sums.uprzezar_open_row.Reads as open-row-reads
use Rattle.uprzezar.proofs.of_sums.uprzezar_add_row.Reads as add-row-reads
use Rattle.uprzezar.proofs.of_sums.uprzezar_run_row.Reads as run-row-reads
use Rattle.uprzezar.proofs.of_sums.uprzezar_total_row.Reads as total-row-reads
use Rattle.uprzezar.proofs.of_trend.uprzezar_trend.Reads as trend_reads
use Rattle.uprzezar.proofs.of_coarse.uprzezar_coarsen.Reads as coarsen-reads
use Rattle.uprzezar.proofs.of_coarse.uprzezar_coarsen_row.Reads as coarsen-row-reads
use Rattle.uprzezar.proofs.of_salvage.uprzezar_salvage.Reads as salvage-reads
use Rattle.uprzezar.proofs.of_salvage.uprzezar_salvage_row.Reads as salvage-row-reads
use Rattle.uprzezar.specs.contracts.of_zones.uprzezar_zones_add as zones-add
use Rattle.uprzezar.specs.contracts.of_zones.uprzezar_zone_add as zone-add
use Rattle.uprzezar.proofs.of_images.uprzezar_header.Reads as header_reads
use Rattle.uprzezar.proofs.of_images.uprzezar_raster.Reads as raster_reads
use Rattle.uprzezar.proofs.of_images.uprzezar_score.Reads as score_reads
use Rattle.uprzezar.proofs.of_images.uprzezar_score_masked.Reads as masked_reads
use Rattle.uprzezar.proofs.of_lit.uprzezar_rank.Reads as rank_reads
use Rattle.uprzezar.proofs.of_lit.uprzezar_select.Reads as select_reads
use Rattle.uprzezar.proofs.of_lit.uprzezar_rank_coarse.Reads as rank_coarse_reads
use Rattle.uprzezar.proofs.of_lit.uprzezar_select_coarse.Reads as select_coarse_reads
use Rattle.uprzezar.proofs.of_lit.uprzezar_in_byte.Reads as in_byte_reads
use Rattle.uprzezar.proofs.of_page.uprzezar_show.Reads as show_reads

-- THE RING. In `a` stand the arguments in their order, in `e` the same as the call returns
module _ (κs : Lfts 1) where
  pub clear_promised : Promised (clear_reads.Post κs) (λ a r. r) (λ a e. e.1.1.0.now) (λ a. clear_call a.0 a.1.0 a.1.1.0.now) (λ (r : ℕ). r)
  clear_promised = promised _ _ _ _ (λ a r e p. p) _ (λ a. ring-calls.clear_tells _ _ _)

  pub read_promised : Promised (read_reads.Post κs) (λ a r. r) (λ a e. a.1.1.0.now)
      (λ a. read_call a.0 a.1.0 a.1.1.0.now a.1.1.1.0) (λ (r : Answer). r.refusal)
  read_promised = promised _ _ _ _ (λ a r e p. (p, ring-calls.read_leaves _ _ _ _)) _ (λ a. ring-calls.read_tells _ _ _ _)

  pub write_promised : Promised (write-reads.Post κs) (λ a r. r) (λ a e. e.1.1.0.now)
      (λ a. write_call a.0 a.1.0 a.1.1.0.now a.1.1.1.0 a.1.1.1.1.0) (λ (r : ℕ). r)
  write_promised = promised _ _ _ _ (λ a r e p. p) _ (λ a. ring-calls.write_tells _ _ _ _ _)

  pub sum_promised : Promised (sum-reads.Post κs) (λ a r. r) (λ a e. a.1.1.0.now)
      (λ a. sum_call a.0 a.1.0 a.1.1.0.now a.1.1.1.0 a.1.1.1.1.0) (λ (r : Answer). r.refusal)
  sum_promised = promised _ _ _ _ (λ a r e p. (p, ring-calls.sum_leaves _ _ _ _ _)) _ (λ a. ring-calls.sum_tells _ _ _ _ _)

-- THE BOOK: its numbers, resting and waking, for which nothing is lent …
module _ (κs : Lfts 0) where
  pub shape_promised : Promised (shape-reads.Post κs) (λ a r. r) (λ a e. tt) (λ a. shape_call a.0 a.1.0 a.1.1.0) (λ (r : Shaped). r.refusal)
  shape_promised = promised _ _ _ _ (λ a r e p. (p, book-calls.shape_leaves a.0 a.1.0 a.1.1.0)) _ (λ a. book-calls.derive_tells a.0 a.1.0 a.1.1.0)

  pub rest_promised : Promised (rest-reads.Post κs) (λ a r. r) (λ a e. tt) (λ a. rest_call a.0) (λ (r : Updated). r.refusal)
  rest_promised = promised _ _ _ _ (λ a r e p. (p, book-calls.mark_leaves a.0 at_rest)) _ (λ a. book-calls.mark_tells a.0 at_rest)

  pub wake_promised : Promised (wake-reads.Post κs) (λ a r. r) (λ a e. tt) (λ a. wake_call a.0) (λ (r : Updated). r.refusal)
  wake_promised = promised _ _ _ _ (λ a r e p. (p, book-calls.mark_leaves a.0 awake)) _ (λ a. book-calls.mark_tells a.0 awake)

-- … the calls with a ring; the verdict is the book's verdict seen as numbers …
module _ (κs : Lfts 1) where
  pub open_promised : Promised (open_reads.Post κs) (λ a r. r) (λ a e. e.1.1.1.0.now)
      (λ a. open_call a.0 a.1.0 a.1.1.0 a.1.1.1.0.now) (λ (r : Updated). r.refusal)
  open_promised = promised _ _ _ _ (λ a r e p. p) _ (λ a. book-calls.open_tells _ _ _ _)

  pub add_promised : Promised (add_reads.Post κs) (λ a r. r) (λ a e. e.1.0.now)
      (λ a. add_call a.0 a.1.0.now a.1.1.0) (λ (r : Updated). r.refusal)
  add_promised = promised _ _ _ _ (λ a r e p. p) _ (λ a. book-calls.add_tells _ _ _)

  pub total_promised : Promised (total_reads.Post κs) (λ a r. r) (λ a e. a.1.0.now)
      (λ a. total_call a.0 a.1.0.now a.1.1.0) (λ (r : Figure). r.refusal)
  total_promised = promised _ _ _ _ (λ a r e p. (p, book-calls.total_leaves _ _ _)) _ (λ a. book-calls.total_tells _ _ _)

  pub far_promised : Promised (far_reads.Post κs) (λ a r. r) (λ a e. a.1.0.now)
      (λ a. how_far_call a.0 a.1.0.now a.1.1.0) (λ (r : Window). r.refusal)
  far_promised = promised _ _ _ _ (λ a r e p. (p, book-calls.far_leaves _ _ _)) _ (λ a. book-calls.far_tells _ _ _)

  pub verdict_promised : Promised (verdict-reads.Post κs) (λ a r. r) (λ a e. a.1.0.now)
      (λ a. seen_as as_numbers (verdict_call a.0 a.1.0.now a.1.1.0 a.1.1.1.0)) (λ (r : Ruled). r.refusal)
  verdict_promised =
      seen_promised _ _ _ as_numbers (λ a. verdict_call a.0 a.1.0.now a.1.1.0 a.1.1.1.0)
      (λ a r e p. (p, book-calls.verdict_leaves _ _ _ _)) _ (λ a. book-calls.verdict_tells _ _ _ _ (λ notice. refl) (λ number. refl))

-- … and a run of counts, for which they are lent beside the ring
module _ (κs : Lfts 2) where
  pub run_promised : Promised (run_reads.Post κs) (λ a r. r) (λ a e. e.1.0.now)
      (λ a. run_call a.0 a.1.0.now a.1.1.0.now) (λ (r : Ran). r.refusal)
  run_promised = promised _ _ _ _ (λ a r e p. p) _ (λ a. book-calls.run_tells _ _ _)

-- THE BOOK WITH A ROW, which is lent beside the ring …
module _ (κs : Lfts 2) where
  pub open_row_promised : Promised (open-row-reads.Post κs) (λ a r. r)
      (λ a e. record { ring = e.1.1.1.0.now; row = e.1.1.1.1.0.now })
      (λ a. open_row_call a.0 a.1.0 a.1.1.0 a.1.1.1.0.now a.1.1.1.1.0.now) (λ (r : Updated). r.refusal)
  open_row_promised = promised _ _ _ _ (λ a r e p. (p.0, λ i. record { ring = p.1 i; row = p.2 i })) _ (λ a. sums-calls.open_row_tells _ _ _ _ _)

  pub add_row_promised : Promised (add-row-reads.Post κs) (λ a r. r) (λ a e. record { ring = e.1.0.now; row = e.1.1.0.now })
      (λ a. add_row_call a.0 a.1.0.now a.1.1.0.now a.1.1.1.0) (λ (r : Updated). r.refusal)
  add_row_promised = promised _ _ _ _ (λ a r e p. (p.0, λ i. record { ring = p.1 i; row = p.2 i })) _ (λ a. sums-calls.add_row_tells _ _ _ _)

  pub total_row_promised : Promised (total-row-reads.Post κs) (λ a r. r) (λ a e. record { ring = a.1.0.now; row = a.1.1.0.now })
      (λ a. total_row_call a.0 a.1.0.now a.1.1.0.now a.1.1.1.0) (λ (r : Summed). r.refusal)
  total_row_promised = promised _ _ _ _ (λ a r e p. (p, sums-calls.total_row_leaves _ _ _ _)) _ (λ a. sums-calls.total_row_tells _ _ _ _)

-- … and a run of counts with it
module _ (κs : Lfts 3) where
  pub run_row_promised : Promised (run-row-reads.Post κs) (λ a r. r) (λ a e. record { ring = e.1.0.now; row = e.1.1.0.now })
      (λ a. run_row_call a.0 a.1.0.now a.1.1.0.now a.1.1.1.0.now) (λ (r : Ran). r.refusal)
  run_row_promised = promised _ _ _ _ (λ a r e p. (p.0, λ i. record { ring = p.1 i; row = p.2 i })) _ (λ a. sums-calls.run_row_tells _ _ _ _)

-- THE TREND
module _ (κs : Lfts 1) where
  pub trend_promised : Promised (trend_reads.Post κs) (λ a r. r) (λ a e. a.1.0.now)
      (λ a. trend_call a.0 a.1.0.now a.1.1.0) (λ (r : trend-answer.Answer). r.refusal)
  trend_promised = promised _ _ _ _ (λ a r e p. (p, trend-calls.trend_leaves _ _ _)) _ (λ a. trend-calls.trend_tells _ _ _)

-- A COARSER BOOK. The second ring is what is left; the first is lent to be read alone …
module _ (κs : Lfts 2) where
  pub coarsen_promised : Promised (coarsen-reads.Post κs) (λ a r. r) (λ a e. e.1.1.1.0.now)
      (λ a. coarsen_call a.0 a.1.0.now a.1.1.0 a.1.1.1.0.now) (λ (r : Coarser). r.refusal)
  coarsen_promised = promised _ _ _ _ (λ a r e p. p) _ (λ a. coarse-calls.coarsen_tells _ _ _ _)

-- … and a row beside the second
module _ (κs : Lfts 3) where
  pub coarsen_row_promised : Promised (coarsen-row-reads.Post κs) (λ a r. r)
      (λ a e. record { ring = e.1.1.1.0.now; row = e.1.1.1.1.0.now })
      (λ a. coarsen_row_call a.0 a.1.0.now a.1.1.0 a.1.1.1.0.now a.1.1.1.1.0.now) (λ (r : Coarser). r.refusal)
  coarsen_row_promised = promised _ _ _ _ (λ a r e p. (p.0, λ i. record { ring = p.1 i; row = p.2 i })) _ (λ a. coarse-calls.coarsen_row_tells _ _ _ _ _)

-- SALVAGE. The ring and the row of slot numbers are what is left …
module _ (κs : Lfts 2) where
  pub salvage_promised : Promised (salvage-reads.Post κs) (λ a r. r) (λ a e. record { ring = e.1.0.now; numbers = e.1.1.0.now })
      (λ a. salvage_call a.0 a.1.0.now a.1.1.0.now) (λ (r : Salvaged). r.refusal)
  salvage_promised = promised _ _ _ _ (λ a r e p. (p.0, λ i. record { ring = p.1 i; numbers = p.2 i })) _ (λ a. salvage-calls.salvage_tells _ _ _)

-- … and the row of running sums with them
module _ (κs : Lfts 3) where
  pub salvage_row_promised : Promised (salvage-row-reads.Post κs) (λ a r. r)
      (λ a e. record { ring = e.1.0.now; numbers = e.1.1.0.now; row = e.1.1.1.0.now })
      (λ a. salvage_row_call a.0 a.1.0.now a.1.1.0.now a.1.1.1.0.now) (λ (r : Salvaged). r.refusal)
  salvage_row_promised = promised _ _ _ _ (λ a r e p. (p.0, λ i. record { ring = p.1 i; numbers = p.2 i; row = p.3 i })) _ (λ a. salvage-calls.salvage_row_tells _ _ _ _)

-- A BOOK FOR EACH ZONE. The statements as they stand at the functions, for every model of the logic, …
module _ {M : Type 1} {𝓤 : Ura M} (𝓛 : Logic 𝓤) (mem : Memory → SProp 𝓤) (run : Routine → Fun 𝓤) where
  pub zones_add_says : (κs : Lfts 3) (a : Args zones-add.signature κs) (r : Res zones-add.signature κs) (e : AtExit zones-add.ended κs)
      → (zones-add.clauses 𝓛 mem run κs a).ensures tt r e
      ≡ fact 𝓤 (AllSays (record { zones = a.0.now; rings = a.1.0.now; counts = a.1.1.0.now }) r
      (record { zones = e.0.now; rings = e.1.0.now }))
  zones_add_says κs a r e = refl

  pub zone_add_says : (κs : Lfts 2) (a : Args zone-add.signature κs) (r : Res zone-add.signature κs) (e : AtExit zone-add.ended κs)
      → (zone-add.clauses 𝓛 mem run κs a).ensures tt r e
      ≡ fact 𝓤 (OneSays (record { zones = a.0.now; rings = a.1.0.now; zone = a.1.1.0; item = a.1.1.1.0 }) r
      (record { zones = e.0.now; rings = e.1.0.now }))
  zone_add_says κs a r e = refl

-- … and what is promised of them
pub zones_add_promised : Promised AllSays (λ a r. r) (λ lent after. after) all_call (λ (r : Zoned). r.refusal)
zones_add_promised = zones-calls.add_all_promised

pub zone_add_promised : Promised OneSays (λ a r. r) (λ lent after. after) one_call (λ (r : Zoned). r.refusal)
zone_add_promised = zones-calls.add_one_promised

-- IMAGES. The raster's place is the header's answer seen in another form
module _ (κs : Lfts 1) where
  pub header_promised : Promised (header_reads.Post κs) (λ a r. r) (λ a e. a.0.now) (λ a. header_call a.0.now) (λ (r : Numbers). r.refusal)
  header_promised =
      promised _ _ _ _ (λ a r e p. (p ∙ sym (image-calls.header_result a.0.now), image-calls.header_leaves a.0.now)) _ (λ a. image-calls.header_tells a.0.now)

  pub raster_promised : Promised (raster_reads.Post κs) (λ a r. r) (λ a e. a.0.now) (λ a. seen_as place_in (header_call a.0.now))
      (λ (r : Raster). r.refusal)
  raster_promised =
      seen_promised _ _ _ place_in (λ a. header_call a.0.now)
      (λ a r e p. (p ∙ ap place_in (sym (image-calls.header_result a.0.now)), image-calls.header_leaves a.0.now)) _
      (λ a. image-calls.header_tells a.0.now)

-- THE SCORE …
module _ (κs : Lfts 2) where
  pub score_promised : Promised {Lent = List ℕ × List ℕ} (score_reads.Post κs) (λ a r. r) (λ a e. (a.1.1.0.now, a.1.1.1.0.now))
      (λ a. score_call a.0 a.1.0 a.1.1.0.now a.1.1.1.0.now) (λ (r : score-answer.Answer). r.refusal)
  score_promised = promised _ _ _ _ (λ a r e p. (p, score-calls.score_leaves _ _ _ _)) _ (λ a. score-calls.score_tells _ _ _ _)

-- … and the score under a mask, which is lent beside the images
module _ (κs : Lfts 3) where
  pub masked_promised : Promised {Lent = List ℕ × List ℕ × List ℕ} (masked_reads.Post κs) (λ a r. r)
      (λ a e. (a.1.1.0.now, a.1.1.1.0.now, a.1.1.1.1.0.now))
      (λ a. masked_call a.0 a.1.0 a.1.1.0.now a.1.1.1.0.now a.1.1.1.1.0.now)
      (λ (r : score-answer.Answer). r.refusal)
  masked_promised = promised _ _ _ _ (λ a r e p. (p, score-calls.masked_leaves _ _ _ _ _)) _ (λ a. score-calls.masked_tells _ _ _ _ _)

-- LIT FRAMES. The row of frames is lent to be read alone …
module _ (κs : Lfts 1) where
  pub rank_promised : Promised (rank_reads.Post κs) (λ a r. r) (λ a e. a.0.now)
      (λ a. rank_call a.0.now a.1.0 a.1.1.0) (λ (r : lit-answer.Answer). r.refusal)
  rank_promised = promised _ _ _ _ (λ a r e p. (p, lit-calls.rank_leaves _ _ _)) _ (λ a. lit-calls.rank_tells _ _ _)

  pub select_promised : Promised (select_reads.Post κs) (λ a r. r) (λ a e. a.0.now)
      (λ a. select_call a.0.now a.1.0 a.1.1.0) (λ (r : lit-answer.Answer). r.refusal)
  select_promised = promised _ _ _ _ (λ a r e p. (p, lit-calls.select_leaves _ _ _)) _ (λ a. lit-calls.select_tells _ _ _)

  pub rank_coarse_promised : Promised (rank_coarse_reads.Post κs) (λ a r. r) (λ a e. a.0.now)
      (λ a. coarse_rank_call a.0.now a.1.0 a.1.1.0 a.1.1.1.0) (λ (r : lit-answer.Answer). r.refusal)
  rank_coarse_promised = promised _ _ _ _ (λ a r e p. (p, lit-calls.rank_coarse_leaves _ _ _ _)) _ (λ a. lit-calls.rank_coarse_tells _ _ _ _)

  pub select_coarse_promised : Promised (select_coarse_reads.Post κs) (λ a r. r) (λ a e. a.0.now)
      (λ a. coarse_select_call a.0.now a.1.0 a.1.1.0 a.1.1.1.0) (λ (r : lit-answer.Answer). r.refusal)
  select_coarse_promised = promised _ _ _ _ (λ a r e p. (p, lit-calls.select_coarse_leaves _ _ _ _)) _ (λ a. lit-calls.select_coarse_tells _ _ _ _)

-- … and for the look into a byte, which refuses nothing, nothing is lent
module _ (κs : Lfts 0) where
  pub in_byte_settled : Settles {Lent = Unit {0}} (in_byte_reads.Post κs) (λ a r. r) (λ a e. tt)
  in_byte_settled = lit-calls.in_byte_settled κs

-- THE PAGE. Its choice is seen as numbers, the refusal among them as it is. Ring and images are lent to be read alone
module _ (κs : Lfts 3) where
  pub show_promised : Promised (show_reads.Post κs) (λ a r. r) (λ a e. lent_by a.1.0 a.1.1.1.1.0 a.1.1.1.1.1.0)
      (λ a. seen_as shown_as
      (show_call a.0 a.1.1.0 a.1.1.1.0 (lent_by a.1.0 a.1.1.1.1.0 a.1.1.1.1.1.0) a.1.1.1.1.1.1.0))
      (λ (r : Shown). r.refusal)
  show_promised =
      seen_promised _ _ _ shown_as _ (λ a r e p. (p, page-calls.show_leaves _ _ _ _ _)) _ (λ a. page-calls.show_tells _ _ _ _ _)
