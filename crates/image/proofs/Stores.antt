-- The image of a record: its size, and that the stores of the code leave it. Assumes nothing.
--     laid          parts stored one after another are their image
--     parts_sizes   the sizes of a record's parts, of arrays as long as their types say
--     room, room_front, no_room   what storing an image answers
use Prim.Native.Nat.{ℕ, ◌+◌, ◌*◌, ◌≤◌, ◌<◌}
use mathlib.Core.Path.{◌≡◌, refl, ap, ap₂, sym, ◌∙◌}
use mathlib.Core.List.{List, [], ◌∷◌, ◌++◌, map, map-append, append-nil, append_assoc}
use mathlib.Core.Bool.{Bool, true, false}
use mir.Val.{bool_byte}
use native.Mathlib.Omega.{arith}
use lib.ListN.{length, get_or, take, drop, set, length-append}
use lib.Seq.{sets, length-take-le}
use borrow.Author.Tests.{le-leb, lt-leb}
use Rattle.std.proofs.lemmas.List.{drop_all}
use Rattle.refusal.specs.Outcome.{accepted, refused, front as at_front, store}
use Rattle.varint.proofs.Bytes.{stored}
use Rattle.words.proofs.Big.{length_bytes_of}
use Rattle.version_information.specs.VersionInformation.{all_bytes}
use Rattle.record.specs.declared.TransportParameters.{TransportParameters}
use Rattle.record.specs.Record.{least}
use Rattle.image.specs.Image.{joined_parts, flag_byte, eight_bytes, numbers_image, front_parts, id_parts, address_parts, rest_parts, versions_parts, parts, image_of, Sized}
use Rattle.words.specs.Words.{numbers_bytes}
use Rattle.words.proofs.Stores.{stored_then}
use Rattle.words.proofs.Numbers.{numbers_size, numbers_more}

-- PARTS, one after another: a byte; a part; a byte and what stands behind it; several parts; the
-- last ones
pub data Laid : List ℕ → ℕ → List (List ℕ) → List ℕ → Type 0 where
  byte : {out ys : List ℕ} {at b x : ℕ} {ps : List (List ℕ)} → b ≡ x → Laid (set out at b) (at + 1) ps ys → Laid out at ((x ∷ []) ∷ ps) ys
  put : {out m ys p : List ℕ} {at k : ℕ} {ps : List (List ℕ)} → m ≡ sets out at p → at + length p ≡ k → Laid m k ps ys → Laid out at (p ∷ ps) ys
  behind : {out m ys p q : List ℕ} {at k b x : ℕ} {ps : List (List ℕ)} → m ≡ sets out at (b ∷ q) → b ≡ x → q ≡ p → at + length (x ∷ p) ≡ k → Laid m k ps ys
      → Laid out at ((x ∷ []) ∷ p ∷ ps) ys
  group : {out m ys : List ℕ} {at k : ℕ} {ps : List (List ℕ)} (qs : List (List ℕ)) → m ≡ sets out at (joined_parts qs) → at + length (joined_parts qs) ≡ k → Laid m k ps ys
      → Laid out at (qs ++ ps) ys
  last : {out ys : List ℕ} {at : ℕ} {ps : List (List ℕ)} → ys ≡ sets out at (joined_parts ps) → Laid out at ps ys

joined_parts_append : (ps qs : List (List ℕ)) → joined_parts (ps ++ qs) ≡ joined_parts ps ++ joined_parts qs
joined_parts_append [] qs = refl
joined_parts_append (p ∷ ps) qs = rw (joined_parts_append ps qs) (sym (append_assoc p (joined_parts ps) (joined_parts qs)))

pub laid : (out : List ℕ) (at : ℕ) (ps : List (List ℕ)) {ys : List ℕ} → Laid out at ps ys → ys ≡ sets out at (joined_parts ps)
laid out at _ (byte {ys = ys} {b = b} {x = x} {ps = ps} e l) =
    stored_then out (set out at b) ys (x ∷ []) (joined_parts ps) at (at + 1) (ap (set out at) e) refl (laid (set out at b) (at + 1) ps l)
laid out at _ (put {m = m} {ys = ys} {p = p} {k = k} {ps = ps} e n l) = stored_then out m ys p (joined_parts ps) at k e n (laid m k ps l)
laid out at _ (behind {m = m} {ys = ys} {p = p} {k = k} {x = x} {ps = ps} e f g n l) =
    stored_then out m ys (x ∷ p) (joined_parts ps) at k (e ∙ ap₂ (λ (y : ℕ) (t : List ℕ). sets out at (y ∷ t)) f g) n (laid m k ps l)
laid out at _ (group {m = m} {ys = ys} {k = k} {ps = ps} qs e n l) =
    stored_then out m ys (joined_parts qs) (joined_parts ps) at k e n (laid m k ps l) ∙ ap (sets out at) (sym (joined_parts_append qs ps))
laid out at ps (last e) = e

-- nothing more
pub done : {out : List ℕ} {at : ℕ} → Laid out at [] out
done = last refl

-- a flag, as the library makes it a byte
pub flag_stored : {n : ℕ} (b : Bool) → n ≡ bool_byte b → n ≡ flag_byte b
flag_stored true e = e
flag_stored false e = e

-- SIZES
abbrev pub sum : List ℕ → ℕ
sum [] = 0
sum (n ∷ ns) = n + sum ns

pub joined_parts_size : (ps : List (List ℕ)) → length (joined_parts ps) ≡ sum (map length ps)
joined_parts_size [] = refl
joined_parts_size (p ∷ ps) = length-append p (joined_parts ps) ∙ ap (λ n. length p + n) (joined_parts_size ps)

pub eight : (x : ℕ) → length (eight_bytes x) ≡ 8
unfolding eight_bytes
eight x = length_bytes_of 8 x

-- NUMBERS: one more
pub numbers_stored : (l v out ys b : List ℕ) (i : ℕ) → i < length v → out ≡ sets l 0 (numbers_image (take i v)) → b ≡ eight_bytes (get_or v i 0)
    → ys ≡ sets out (i * 8) b → ys ≡ sets l 0 (numbers_image (take (i + 1) v))
unfolding eight_bytes
numbers_stored l v out ys b i h e f g = numbers_more 8 l v out ys b i (i * 8) h refl e f g

pub eighty_eight : (ns : List ℕ) → length ns ≡ 11 → length (numbers_image ns) ≡ 88
eighty_eight ns h = numbers_size 8 ns ∙ omega arith

-- what storing an image answers
pub no_room : (bs out : List ℕ) (n : ℕ) → length bs ≡ n → length out < n → (refused 5, out) ≡ store bs out
unfolding store
no_room bs out n l h = let k : length out < length bs = rw l h in rw (lt-leb (length bs) (length out) k)

pub room : (bs out ys : List ℕ) (n : ℕ) → length bs ≡ n → n ≤ length out → ys ≡ sets out 0 bs → (accepted n, ys) ≡ store bs out
unfolding store
room bs out ys n l h e =
    let k : length bs ≤ length out = rw l h in
    rw (le-leb (length bs) (length out) k, l, e, stored bs out k)

-- the same, stored in the first n bytes of `out`
pub room_front : (bs out ys : List ℕ) (n : ℕ) → length bs ≡ n → n ≤ length out → ys ≡ sets (take n out) 0 bs → (accepted n, ys ++ drop n out) ≡ store bs out
unfolding store at_front
room_front bs out ys n l h e =
    let long : length (take n out) ≡ n = length-take-le n out h in
    let none : drop (length bs) (take n out) ≡ [] = drop_all (length bs) (take n out) (omega arith) in
    rw (le-leb (length bs) (length out) (omega arith), e, stored bs (take n out) (omega arith), none, append-nil bs, l)

-- up to the connection IDs, up to the address, the address, the reserved parameter and the order,
-- and version information
abbrev front_sizes : List ℕ
front_sizes = 88 ∷ 1 ∷ 1 ∷ 1 ∷ 8 ∷ 1 ∷ 8 ∷ []

abbrev id_sizes : List ℕ
id_sizes = 1 ∷ 1 ∷ 20 ∷ 1 ∷ 1 ∷ 20 ∷ 1 ∷ 1 ∷ 20 ∷ 1 ∷ 16 ∷ []

abbrev address_sizes : List ℕ
address_sizes = 1 ∷ 1 ∷ 4 ∷ 2 ∷ 1 ∷ 16 ∷ 2 ∷ 1 ∷ 20 ∷ 16 ∷ []

abbrev rest_sizes : List ℕ
rest_sizes = 1 ∷ 8 ∷ 1 ∷ 16 ∷ 1 ∷ 22 ∷ []

abbrev versions_sizes : List ℕ
versions_sizes = 1 ∷ 1 ∷ 68 ∷ []

abbrev pub sizes : List ℕ
sizes = front_sizes ++ (id_sizes ++ (address_sizes ++ (rest_sizes ++ versions_sizes)))

-- parts of these sizes, how long they are
long : (ps : List (List ℕ)) (ns : List ℕ) → map length ps ≡ ns → length (joined_parts ps) ≡ sum ns
long ps ns e = joined_parts_size ps ∙ ap sum e

module _ (r : TransportParameters) (z : Sized r) where
  front : map length (front_parts r) ≡ front_sizes
  unfolding front_parts
  front = rw (eighty_eight r.numbers z.numbers, eight (least r.max_datagram_frame_size), eight (least r.min_ack_delay))

  ids : map length (id_parts r) ≡ id_sizes
  unfolding id_parts
  ids = rw (z.original, z.initial, z.retry, z.token)

  address : map length (address_parts r.preferred_address) ≡ address_sizes
  unfolding address_parts
  address = rw (z.v4, z.v6, z.id, z.reset)

  rest : map length (rest_parts r) ≡ rest_sizes
  unfolding rest_parts
  rest = rw (eight r.grease_transport_parameter.id, z.payload, z.order)

  versions : map length (versions_parts r.version_information) ≡ versions_sizes
  unfolding versions_parts all_bytes
  versions =
      let vs : List ℕ = r.version_information.chosen ∷ r.version_information.available in
      let n : length (numbers_bytes 4 vs) ≡ 68 = numbers_size 4 vs ∙ omega (arith, z.versions) in
      rw n

  pub parts_sizes : map length (parts r) ≡ sizes
  unfolding parts
  parts_sizes = simp map-append (rw (front, ids, address, rest, versions))

  pub image_size : length (image_of r) ≡ 374
  unfolding image_of
  image_size = long (parts r) sizes parts_sizes

  pub record_stored : (out m1 m2 m3 m4 ys : List ℕ) → m1 ≡ sets out 0 (joined_parts (front_parts r)) → m2 ≡ sets m1 108 (joined_parts (id_parts r))
      → m3 ≡ sets m2 191 (joined_parts (address_parts r.preferred_address)) → m4 ≡ sets m3 255 (joined_parts (rest_parts r))
      → ys ≡ sets m4 304 (joined_parts (versions_parts r.version_information)) → ys ≡ sets out 0 (image_of r)
  unfolding image_of parts
  record_stored out m1 m2 m3 m4 ys e1 e2 e3 e4 e5 =
      laid out 0 (parts r)
      (group {k = 108} (front_parts r) e1 (ap (λ n. 0 + n) (long (front_parts r) front_sizes front))
      (group {k = 191} (id_parts r) e2 (ap (λ n. 108 + n) (long (id_parts r) id_sizes ids))
      (group {k = 255} (address_parts r.preferred_address) e3 (ap (λ n. 191 + n) (long (address_parts r.preferred_address) address_sizes address))
      (group {k = 304} (rest_parts r) e4 (ap (λ n. 255 + n) (long (rest_parts r) rest_sizes rest)) (last {ps = versions_parts r.version_information} e5)))))
