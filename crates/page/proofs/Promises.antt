-- THE PROMISES OF THE PAGE: all that crates above may cite beside the names of specs/. They look into no definition.
-- Assumes nothing.

-- BOTH CALLS are refused alike: with the verdict's refusal, then the newest image's, then the other's; both images are judged, whichever is shown
pub use Rattle.page.proofs.Shows.{show_refusal, raster_refusal_lem}
-- refused, neither picture is shown, all other numbers are 0, and the part is the empty one at the start of the newest's slice
pub use Rattle.page.proofs.Shows.{refused_shows_neither, refused_raster}
-- not refused, the newest is shown if the verdict is live, and otherwise the older one, each with its own raster and its own age
pub use Rattle.page.proofs.Shows.{live_shows_newest, else_shows_older}
-- the raster is the part of the picture's slice that show tells of, and this lies within the slice
pub use Rattle.page.proofs.Shows.{raster_at_choice, shown_lies}
-- THE AGE over true times: of two ticks, within a full turn and beyond it, and of the picture that is shown
pub use Rattle.page.proofs.TrueTimes.{age_true, age_by_turns}
pub use Rattle.page.proofs.Shows.{shown_age}
-- demand 1 and uniqueness of show, and uniqueness of raster; show leaves what was lent, and tells its number
pub use Rattle.page.proofs.Demand1.{show_promised, show_settled, raster_settled, show_leaves, show_tells}
