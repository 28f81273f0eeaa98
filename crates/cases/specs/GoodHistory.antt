-- That a history leaves a good book (SCOPE, Demands), with the items that were accepted.
use Rattle.std.specs.Prelude.{◌≡◌}
use Rattle.refusals.specs.Call.{refusal_of}
use Rattle.book.specs.Calls.{open_call}
use Rattle.demands.specs.History.{Good}
use Rattle.cases.specs.History.{Start, L◌n◌D◌lent◌, History, state_of}

-- its opening is taken
abbrev pub Opens : Start → Type 0
Opens (L bound n length D tolerance lent ring) = refusal_of (open_call bound length tolerance ring) ≡ 0

abbrev pub LeavesGood : History → Type 0
LeavesGood history = let left = state_of history in Good left.book left.ring left.accepted
