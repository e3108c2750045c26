-- The operations on a record by its image. What is no image is refused before anything else.
use Rattle.std.specs.Prelude.{ℕ, List, Bool}
use Rattle.refusal.specs.Outcome.{Outcome, accepted, refused, and_then, store}
use Rattle.record.specs.declared.TransportParameters.{TransportParameters}
use Rattle.rules.specs.declared.Side.{Side}
use Rattle.rules.specs.Rules.{check_record}
use Rattle.reader.specs.Reading.{read}
use Rattle.writer.specs.Writing.{write, length_of}
use Rattle.resumption.specs.Resumption.{resume}
use Rattle.authentication.specs.declared.SeenConnectionIds.{SeenConnectionIds}
use Rattle.authentication.specs.Authentication.{authenticate_cids}
use Rattle.image.specs.Image.{image_of, record_from, cid_from}

-- a result, and what is done with it: its refusal comes first
abbrev pub given : {A : Type 0} → Outcome A → (A → List ℕ → Outcome ℕ × List ℕ) → List ℕ → Outcome ℕ × List ℕ
given (accepted a) f out = f a out
given (refused e) f out = (refused e, out)

unfoldable pub record_store : TransportParameters → List ℕ → Outcome ℕ × List ℕ
record_store r out = store (image_of r) out

unfoldable pub image_read : Side → List ℕ → List ℕ → Outcome ℕ × List ℕ
image_read s src image = given (read s src) record_store image

unfoldable pub image_check : List ℕ → Side → Outcome (Unit {0})
image_check image s = and_then (record_from image) (check_record s)

unfoldable pub image_write : List ℕ → List ℕ → Outcome ℕ × List ℕ
image_write image out = given (record_from image) write out

unfoldable pub image_length : List ℕ → Outcome ℕ
image_length image = and_then (record_from image) length_of

-- the cached record's image comes after the new one's
unfoldable pub resume_from : TransportParameters → List ℕ → Outcome (Unit {0})
resume_from r cached = and_then (record_from cached) (resume r)

unfoldable pub image_resume : List ℕ → List ℕ → Outcome (Unit {0})
image_resume image cached = and_then (record_from image) λ r. resume_from r cached

-- the IDs seen, of their images; a flag says whether there was a Retry, and the image of its ID is
-- handed in either way
unfoldable pub seen_from : List ℕ → List ℕ → Bool → List ℕ → Outcome SeenConnectionIds
seen_from initial original retry_seen retry =
    and_then (cid_from initial) λ i.
    and_then (cid_from original) λ o.
    and_then (cid_from retry) λ c.
    accepted (record { initial_src_cid = i; original_dst_cid = o; retry_src_cid = record { present = retry_seen; value = c } })

unfoldable pub image_authenticate : Side → List ℕ → Outcome SeenConnectionIds → Outcome (Unit {0})
image_authenticate s image seen = and_then (record_from image) λ r. and_then seen (authenticate_cids s r)
