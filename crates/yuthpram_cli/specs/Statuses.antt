-- How a command ends, by what the library gives: an outcome, or the first fault of an order; the
-- exit status due; and what a command hands to the library.
use Rattle.std.specs.Prelude.{ℕ, is_some, replicate}
use Rattle.std.specs.Option.{unwrap_or}
use Rattle.std.proofs.Math.Option.{Option, none, some}
use Rattle.refusal.specs.Outcome.{Outcome, accepted, refused}
use Rattle.authentication.specs.declared.SeenConnectionIds.{SeenConnectionIds}
use Rattle.by_image.specs.ByImage.{seen_from}
use Rattle.differing.specs.declared.SeenImages.{SeenImages}
use Rattle.text.specs.declared.out.Fate.{Fate}
use Rattle.text.specs.declared.out.Fate.TheVariants.{Written, Cut, Unread}
use Rattle.yuthpram_cli.specs.declared.Status.{Status}
use Rattle.yuthpram_cli.specs.declared.Status.TheVariants.{Answered, Refused, Misused}

abbrev pub status_of : {A : Type 0} → Outcome A → Status
status_of (accepted a) = Answered
status_of (refused e) = Refused

abbrev pub fault_status : Option ℕ → Status
fault_status none = Answered
fault_status (some k) = Refused

-- the exit status: what became of the writes comes first
abbrev pub exit_status : Fate → Status → ℕ
exit_status Unread status = 141
exit_status Cut status = 3
exit_status Written Answered = 0
exit_status Written Refused = 1
exit_status Written Misused = 2

-- the IDs seen: an absent one is that of no Retry, empty and zero
abbrev pub seen_of : SeenImages → Outcome SeenConnectionIds
seen_of s =
    seen_from s.initial_src_cid s.original_dst_cid (is_some s.retry_src_cid)
    (unwrap_or s.retry_src_cid (replicate 21 0))
