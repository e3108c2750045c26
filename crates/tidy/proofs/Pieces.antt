-- What tidying writes is the extension of the record that was read: at each place, the piece from
-- where the value was found is the piece of the record. Assumes nothing.
use Prim.Native.Nat.{ℕ, suc, ◌≤◌}
use mathlib.Core.Path.{◌≡◌, refl, ap, ap₂, sym, ◌∙◌}
use mathlib.Core.List.{List, [], ◌∷◌, ◌++◌}
use mathlib.Core.Option.{none, some}
use mathlib.Core.Bool.{Bool, true, false}
use native.Mathlib.Omega.{arith}
use lib.ListN.{length, get_or, take, drop}
use borrow.Author.Tests.{eqb-true}
use Rattle.refusal.specs.Outcome.{Outcome, accepted, refused, pick, store}
use Rattle.refusal.specs.Number.{number_of}
use Rattle.refusal.proofs.Laws.{all_at}
use Rattle.words.specs.Words.{elements}
use Rattle.marks.specs.Mark.{marked}
use Rattle.connection_id.specs.ConnectionId.{cid_bytes}
use Rattle.connection_id.proofs.Laws.{cid_same}
use Rattle.catalogue.specs.Catalogue.{Kind, number, flag, cid, token, address, versions, reserved, id_at, kinds, other_kinds, kind_at, fits}
use Rattle.order.specs.Order.{catalogue_order}
use Rattle.order.proofs.Orders.{in_catalogue}
use Rattle.std.specs.Prelude.{None, Some}
use Rattle.record.specs.Values.{Bytes, cid_in, token_in, address_in, address_out, versions_in, versions_out, no_reserved}
use Rattle.record.specs.Record.{is_present, least, well_formed}
use Rattle.record.proofs.KindLaws.{Fits, IfSome, versions_kept}
use Rattle.record.proofs.Address.{address_kept}
use Rattle.version_information.specs.VersionInformation.{no_versions, versions_with, versions_bytes}
use Rattle.rules.specs.declared.Side.{Side}
use Rattle.rules.specs.Rules.{legal}
use Rattle.front.specs.declared.Fault.{Fault}
use Rattle.front.specs.Answer.{refused_with}
use Rattle.value.proofs.Checks.{number_at_lem, not_number_at}
use Rattle.index.specs.Index.{Found, indexed, value_at}
use Rattle.reader.specs.Kept.{record_kept}
use Rattle.index.proofs.Parts.{versions_no}
use Rattle.reader.proofs.Indexed.{no_number, flag_no, address_no, kept_good, read_recorded, read_faulty}
use Rattle.reader.proofs.Laws.{accepted_legal}
use Rattle.wire.specs.Wire.{put, due_value, due_number, due_number_at}
use Rattle.wire.proofs.Put.{put_nil}
use Rattle.wire.specs.Stored.{joined, each}
use Rattle.wire.proofs.Stored.{joined_append}
use Rattle.writer.specs.Writing.{extension}
use Rattle.address.specs.Address.{address_bytes}
use Rattle.writer.proofs.Places.{from11, from16, from21, in_catalogue_order, all_due}
use Rattle.writer.proofs.Extension.{longest}
use Rattle.tidy.specs.Tidying.{tidy}
use Rattle.tidy.specs.Pieces.{span_at, piece_of, piece_for, others, pieces}
use Rattle.tidy.proofs.Laws.{tidied}

-- a value that is due or not, from where it stands and by way of the record
token_piece : (b : Bool) (id : ℕ) (v : List ℕ) → due_value (token_in (pick b (some v) none)).present id (token_in (pick b (some v) none)).value.bytes ≡ due_value b id v
unfolding token_in due_value
token_piece true id v = refl
token_piece false id v = refl

cid_piece : (b : Bool) (id : ℕ) (v : List ℕ) → due_value (cid_in (pick b (some v) none)).present id (cid_bytes (cid_in (pick b (some v) none)).value) ≡ due_value b id v
unfolding cid_in due_value
cid_piece true id v = rw (cid_same v)
cid_piece false id v = refl

address_piece : (b : Bool) (id : ℕ) (v : List ℕ) → IfSome (Fits address) (pick b (some v) none)
    → due_value (address_in (pick b (some v) none)).present id (address_bytes (address_in (pick b (some v) none))) ≡ due_value b id v
unfolding address_in due_value
address_piece true id v f = let e : some (address_bytes (address_in (some v))) ≡ some v = (unfold address_out in address_kept (some v) f) in let q : address_bytes (address_in (some v)) ≡ v = cc in rw q
address_piece false id v f = refl

versions_piece : (b : Bool) (id : ℕ) (v : List ℕ) → IfSome (Fits versions) (pick b (some v) none)
    → due_value (versions_in (pick b (some v) none)).present id (versions_bytes (versions_in (pick b (some v) none))) ≡ due_value b id v
unfolding versions_in versions_with no_versions due_value
versions_piece true id v f = let e : some (versions_bytes (versions_in (some v))) ≡ some v = (unfold versions_out in versions_kept (some v) f) in let q : versions_bytes (versions_in (some v)) ≡ v = cc in rw q
versions_piece false id v f = refl

flag_piece : (b : Bool) (id : ℕ) (v : List ℕ) → IfSome (Fits flag) (pick b (some v) none) → due_value b id [] ≡ due_value b id v
unfolding due_value fits
flag_piece true id [] f = refl
flag_piece true id (b ∷ v) f = let z : suc (length v) ≡ 0 = eqb-true (suc (length v)) 0 f.fit in absurd (omega arith)
flag_piece false id v f = refl

number_piece : (b : Bool) (id x : ℕ) → due_number (is_present (pick b (Some x) None)) id (least (pick b (Some x) None)) ≡ due_number b id x
unfolding due_number due_value
number_piece true id x = refl
number_piece false id x = refl

-- nothing, a number or a value, as the place was met and is of which kind
module _ (id : ℕ) (s : List ℕ) (f : Found) (p : ℕ) where
  pub none_due : (out : List ℕ) → marked f.0 p ≡ false → (0, out) ≡ put (piece_for id s f p) out
  unfolding piece_for piece_of
  none_due out h = rw h (go (kind_at p))
    where
      go : (k : Kind) → (0, out) ≡ put (piece_of k false id (get_or f.1 p 0) (span_at s f p)) out
      go number = unfold due_number due_value in put_nil out
      go flag = unfold due_value in put_nil out
      go cid = unfold due_value in put_nil out
      go token = unfold due_value in put_nil out
      go address = unfold due_value in put_nil out
      go versions = unfold due_value in put_nil out
      go reserved = unfold due_value in put_nil out

  pub number_due : marked f.0 p ≡ true → marked 0x1047ff p ≡ true → due_number true id (get_or f.1 p 0) ≡ piece_for id s f p
  unfolding piece_for piece_of
  number_due d h = rw (d, number_at_lem p h) refl

  pub unmet : none ≡ value_at s f p → marked f.0 p ≡ false
  unfolding value_at
  unmet e = go (marked f.0 p) e
    where
      go : (b : Bool) → none ≡ pick b (some (take (get_or f.2 p 0) (drop (get_or f.1 p 0) s))) none → b ≡ false
      go false q = refl
      go true q = cc

  pub value_due : (v : List ℕ) → marked 0x1047ff p ≡ false → some v ≡ value_at s f p → due_value true id v ≡ piece_for id s f p
  unfolding piece_for piece_of value_at span_at
  value_due v h e = go (marked f.0 p) (kind_at p) (not_number_at p h) e
    where
      go : (b : Bool) (k : Kind) → (k ≡ number → ⊥) → some v ≡ pick b (some (take (get_or f.2 p 0) (drop (get_or f.1 p 0) s))) none
          → due_value true id v ≡ piece_of k b id (get_or f.1 p 0) (take (get_or f.2 p 0) (drop (get_or f.1 p 0) s))
      go false k n q = cc
      go true number n q = absurd (n refl)
      go true flag n q = let w : v ≡ take (get_or f.2 p 0) (drop (get_or f.1 p 0) s) = cc in rw w
      go true cid n q = let w : v ≡ take (get_or f.2 p 0) (drop (get_or f.1 p 0) s) = cc in rw w
      go true token n q = let w : v ≡ take (get_or f.2 p 0) (drop (get_or f.1 p 0) s) = cc in rw w
      go true address n q = let w : v ≡ take (get_or f.2 p 0) (drop (get_or f.1 p 0) s) = cc in rw w
      go true versions n q = let w : v ≡ take (get_or f.2 p 0) (drop (get_or f.1 p 0) s) = cc in rw w
      go true reserved n q = let w : v ≡ take (get_or f.2 p 0) (drop (get_or f.1 p 0) s) = cc in rw w

module _ (side : Side) (s : List ℕ) (f : Found) (hb : Bytes s) (e : indexed side s ≡ accepted f) where
  formed : well_formed (record_kept s f) ≡ true
  unfolding legal
  formed = all_at _ (accepted_legal side s (record_kept s f) hb (read_recorded side s f e)).0 0

  numbers_piece : each (due_number_at (record_kept s f).numbers) 11 ≡ each (due_number_at f.1) 11
  unfolding each due_number_at record_kept elements
  numbers_piece = refl

  address_good : IfSome (Fits address) (pick (marked f.0 15) (some (span_at s f 15)) none)
  unfolding kind_at kinds other_kinds value_at span_at
  address_good = kept_good side s f hb e 15 address_no

  versions_good : IfSome (Fits versions) (pick (marked f.0 21) (some (span_at s f 21)) none)
  unfolding kind_at kinds other_kinds value_at span_at
  versions_good = kept_good side s f hb e 21 versions_no

  flag_good : (p : ℕ) → kind_at p ≡ flag → IfSome (Fits flag) (pick (marked f.0 p) (some (span_at s f p)) none)
  unfolding value_at span_at
  flag_good p k = rw k at (kept_good side s f hb e p (no_number p flag k flag_no))

  others_piece : joined (from11 (record_kept s f) ++ (from16 (record_kept s f) ++ from21 (record_kept s f))) ≡ joined (others s f)
  unfolding others each piece_for piece_of kind_at kinds other_kinds record_kept value_at no_reserved joined span_at
  others_piece =
      rw (
        token_piece (marked f.0 12) (id_at 12) (span_at s f 12),
        flag_piece (marked f.0 13) (id_at 13) (span_at s f 13) (flag_good 13 refl),
        number_piece (marked f.0 14) (id_at 14) (get_or f.1 14 0),
        address_piece (marked f.0 15) (id_at 15) (span_at s f 15) address_good,
        cid_piece (marked f.0 16) (id_at 16) (span_at s f 16),
        cid_piece (marked f.0 17) (id_at 17) (span_at s f 17),
        cid_piece (marked f.0 18) (id_at 18) (span_at s f 18),
        flag_piece (marked f.0 19) (id_at 19) (span_at s f 19) (flag_good 19 refl),
        number_piece (marked f.0 20) (id_at 20) (get_or f.1 20 0),
        versions_piece (marked f.0 21) (id_at 21) (span_at s f 21) versions_good,
      )
      (unfold due_value in refl)

  pub whole : joined (pieces s f) ≡ extension (record_kept s f) catalogue_order
  unfolding pieces
  whole =
      joined_append (each (due_number_at f.1) 11) _
      ∙ ap₂ (λ (a b : List ℕ). a ++ b) (ap joined (sym numbers_piece)) (sym others_piece)
      ∙ sym (joined_append (each (due_number_at (record_kept s f).numbers) 11) (from11 (record_kept s f) ++ (from16 (record_kept s f) ++ from21 (record_kept s f))))
      ∙ ap joined (all_due (record_kept s f) formed)
      ∙ in_catalogue_order (record_kept s f)

  pub few : length (joined (pieces s f)) ≤ 385
  few = rw whole (longest (record_kept s f) catalogue_order formed in_catalogue)

  pub tidied_pieces : (out : List ℕ) → store (joined (pieces s f)) out ≡ tidy side s out
  tidied_pieces out = ap (λ (bs : List ℕ). store bs out) whole ∙ sym (tidied side s out (record_kept s f) hb (read_recorded side s f e))

-- as the code has them: of what is kept, the extension is that which was indexed
pub few_kept : (side : Side) (s k : List ℕ) (f : Found) → Bytes s → accepted f ≡ indexed side s → k ≡ s → length (joined (pieces k f)) ≤ 385
few_kept side s k f hb e l = rw l (few side s f hb (sym e))

pub stored : (side : Side) (s out k : List ℕ) (f : Found) (o : Outcome ℕ × List ℕ) → Bytes s → accepted f ≡ indexed side s → k ≡ s
    → o ≡ store (joined (pieces k f)) out → o ≡ tidy side s out
stored side s out k f o hb e l h = h ∙ rw l (tidied_pieces side s f hb (sym e) out)

pub not_read : (side : Side) (s out : List ℕ) (x : Fault) → refused x ≡ indexed side s
    → ◌≡◌ {A = Outcome ℕ × List ℕ} (refused (number_of (refused_with x)), out) (tidy side s out)
unfolding tidy
not_read side s out x h = rw (read_faulty side s x (sym h))
