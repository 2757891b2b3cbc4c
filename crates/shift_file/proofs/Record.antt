-- A record and its bytes: what stands at the front of `bytes_of r ++ t` is r's, number by number and plane by plane, and where an allowed record
-- stands whole, `bytes_of` gives its bytes again. Assumes nothing.
use Prim.Native.Nat.{ℕ, ◌+◌, ◌*◌, ◌^◌, ◌≤◌}
use mathlib.Core.Path.{◌≡◌, refl, sym, ◌∙◌}
use mathlib.Core.Bool.{true}
use mathlib.Core.List.{List, ◌++◌, append_assoc}
use native.Mathlib.Omega.{arith}
use lib.Dec.{leb}
use lib.ListN.{length, take, drop, length-append, length-drop}
use lib.Seq.{take-add, drop-drop, drop_at, take_at, length-take-le}
use borrow.Author.Tests.{le-leb, leb-true}
use Rattle.std.proofs.lemmas.Bool.{and_from, and_parts}
use Rattle.little_endian.specs.Number.{Bytes, low_bytes, number_in}
use Rattle.little_endian.proofs.Number.{length_low, bytes_drop, bytes_take, number_low, low_number, number_below, drop_low}
use Rattle.shift_file.specs.declared.ShiftForm.{ShiftForm}
use Rattle.shift_file.specs.declared.ShiftForm.TheVariants.{WithoutSettings, WithSettings}
use Rattle.shift_file.specs.File.{ShiftRecord, Allowed, settings_size, header_size, is_side, codes_allowed, settings_told, sampling_of, chroma_bytes, bytes_of}
use Rattle.shift_file.specs.Read.{width_at, height_at, settings_at, luma_at, chroma_at, size_at, record_at}
use Rattle.shift_file.specs.Check.{shape_allowed, record_stands}
use Rattle.shift_file.proofs.Products.{luma_most, chroma_most}

pub side_bounds : (x : ℕ) → is_side x ≡ true → (1 ≤ x) × (x ≤ 16384)
side_bounds x h = let p = and_parts (leb 1 x) (leb x 16384) h in (leb-true 1 x p.0, leb-true x 16384 p.1)

-- ---- the settings that are told

pub allowed_told : (form : ShiftForm) (s : List ℕ) → codes_allowed WithSettings (settings_told form s) ≡ codes_allowed form s
allowed_told WithoutSettings s = refl
allowed_told WithSettings s = refl

pub sampling_told : (form : ShiftForm) (s : List ℕ) → sampling_of WithSettings (settings_told form s) ≡ sampling_of form s
sampling_told WithoutSettings s = refl
sampling_told WithSettings s = refl

-- ---- from the bytes to the record

pub record Stands (form : ShiftForm) (l : List ℕ) : Type 0 where
  pub header : header_size form ≤ length l
  pub width : is_side (width_at l) ≡ true
  pub height : is_side (height_at l) ≡ true
  pub codes : codes_allowed form (settings_at form l) ≡ true
  pub whole : size_at form l ≤ length l

module _ (form : ShiftForm) (l : List ℕ) where
  pub Stands-true : record_stands form l ≡ true → Stands form l
  unfolding record_stands shape_allowed
  Stands-true h =
      let p = and_parts (leb (header_size form) (length l)) _ h in
      let q = and_parts (shape_allowed form l) _ p.1 in
      let s = and_parts (is_side (width_at l)) _ q.0 in
      let t = and_parts (is_side (height_at l)) _ s.1 in
      record { header = leb-true _ _ p.0; width = s.0; height = t.0; codes = t.1; whole = leb-true _ _ q.1 }

  Stands-is : Stands form l → record_stands form l ≡ true
  unfolding record_stands shape_allowed
  Stands-is s =
      and_from (leb (header_size form) (length l)) _ (le-leb _ _ s.header)
      (and_from (shape_allowed form l) _
      (and_from (is_side (width_at l)) _ s.width (and_from (is_side (height_at l)) _ s.height s.codes))
      (le-leb _ _ s.whole))

-- the parts of a record's bytes
cut : (e a c : ℕ) (l : List ℕ)
    → take (8 + e + (a + 2 * c)) l
    ≡ take 4 l ++ (take 2 (drop 4 l) ++ (take 2 (drop 6 l) ++ (take e (drop 8 l)
    ++ (take a (drop (8 + e) l) ++ (take c (drop (8 + e + a) l) ++ take c (drop (8 + e + a + c) l))))))
cut e a c l =
    let n : 8 + e + (a + 2 * c) ≡ 4 + (2 + (2 + (e + (a + (c + c))))) = omega arith in
    rw n (simp (take-add, drop-drop))

module _ (form : ShiftForm) (l : List ℕ) (b : Bytes l) (s : Stands form l) where
  again : (n at : ℕ) → at + n ≤ 8 → low_bytes n (number_in n (drop at l)) ≡ take n (drop at l)
  again n at h = low_number n (drop at l) (bytes_drop at l b) (rw length-drop (omega (arith, s.header)))

  part_bytes : (n at : ℕ) → Bytes (take n (drop at l))
  part_bytes n at = bytes_take n (drop at l) (bytes_drop at l b)

  pub bytes_record : bytes_of (record_at form l) ≡ take (size_at form l) l
  unfolding bytes_of record_at size_at
  bytes_record =
      rw (low_number 4 l b (omega (arith, s.header)), again 2 4 (omega arith), again 2 6 (omega arith))
      (sym (cut (settings_size form) (luma_at l) (chroma_at form l) l))

  pub record_Allowed : Allowed form (record_at form l)
  unfolding record_at size_at
  record_Allowed = record {
    crossing = number_below 4 l b;
    width = s.width;
    height = s.height;
    settings = length-take-le _ (drop 8 l) (rw length-drop (omega (arith, s.header)));
    codes = s.codes;
    y_size = length-take-le _ (drop (header_size form) l) (rw length-drop (omega (arith, s.whole)));
    u_size = length-take-le _ (drop (header_size form + luma_at l) l) (rw length-drop (omega (arith, s.whole)));
    v_size = length-take-le _ (drop (header_size form + luma_at l + chroma_at form l) l) (rw length-drop (omega (arith, s.whole)));
    y_bytes = part_bytes (luma_at l) (header_size form);
    u_bytes = part_bytes (chroma_at form l) (header_size form + luma_at l);
    v_bytes = part_bytes (chroma_at form l) (header_size form + luma_at l + chroma_at form l);
  }

-- ---- from the record to the bytes

settings_most : (form : ShiftForm) → settings_size form ≤ 4
settings_most WithoutSettings = omega arith
settings_most WithSettings = omega arith

module _ (form : ShiftForm) (r : ShiftRecord) (a : Allowed form r) where
  pub length_bytes : length (bytes_of r) ≡ header_size form + (r.width * r.height + 2 * chroma_bytes form r.settings r.width r.height)
  unfolding bytes_of
  length_bytes = simp (length-append, length_low) (omega (arith, a.settings, a.y_size, a.u_size, a.v_size))

  pub size_most : length (bytes_of r) ≤ 2 ^ 30
  unfolding chroma_bytes
  size_most =
      let w = side_bounds r.width a.width in
      let h = side_bounds r.height a.height in
      omega (
        arith,
        length_bytes,
        settings_most form,
        luma_most 16384 w.1 h.1,
        chroma_most (sampling_of form r.settings) 16384 r.width r.height (omega arith) w.1 h.1,
      )

  module _ (t : List ℕ) where
    parts : bytes_of r ++ t
        ≡ low_bytes 4 r.crossing ++ (low_bytes 2 r.width ++ (low_bytes 2 r.height ++ (r.settings ++ (r.y ++ (r.u ++ (r.v ++ t))))))
    unfolding bytes_of
    parts = simp append_assoc

    at4 : drop 4 (bytes_of r ++ t) ≡ low_bytes 2 r.width ++ (low_bytes 2 r.height ++ (r.settings ++ (r.y ++ (r.u ++ (r.v ++ t)))))
    at4 = rw parts (drop_low 4 r.crossing _)

    at6 : drop 6 (bytes_of r ++ t) ≡ low_bytes 2 r.height ++ (r.settings ++ (r.y ++ (r.u ++ (r.v ++ t))))
    at6 = sym (drop-drop 2 4 (bytes_of r ++ t)) ∙ rw at4 (drop_low 2 r.width _)

    at8 : drop 8 (bytes_of r ++ t) ≡ r.settings ++ (r.y ++ (r.u ++ (r.v ++ t)))
    at8 = sym (drop-drop 2 6 (bytes_of r ++ t)) ∙ rw at6 (drop_low 2 r.height _)

    at_y : drop (header_size form) (bytes_of r ++ t) ≡ r.y ++ (r.u ++ (r.v ++ t))
    at_y = sym (drop-drop (settings_size form) 8 (bytes_of r ++ t)) ∙ rw at8 (drop_at r.settings _ (settings_size form) a.settings)

    at_u : drop (header_size form + r.width * r.height) (bytes_of r ++ t) ≡ r.u ++ (r.v ++ t)
    at_u = sym (drop-drop (r.width * r.height) (header_size form) (bytes_of r ++ t)) ∙ rw at_y (drop_at r.y _ _ a.y_size)

    at_v : drop (header_size form + r.width * r.height + chroma_bytes form r.settings r.width r.height) (bytes_of r ++ t) ≡ r.v ++ t
    at_v =
        sym (drop-drop (chroma_bytes form r.settings r.width r.height) (header_size form + r.width * r.height) (bytes_of r ++ t))
        ∙ rw at_u (drop_at r.u _ _ a.u_size)

    pub crossing_is : number_in 4 (bytes_of r ++ t) ≡ r.crossing
    crossing_is = rw parts (number_low 4 _ _ a.crossing)

    pub width_is : width_at (bytes_of r ++ t) ≡ r.width
    width_is = rw at4 (number_low 2 _ _ (omega (arith, side_bounds r.width a.width)))

    pub height_is : height_at (bytes_of r ++ t) ≡ r.height
    height_is = rw at6 (number_low 2 _ _ (omega (arith, side_bounds r.height a.height)))

    pub settings_is : settings_at form (bytes_of r ++ t) ≡ r.settings
    settings_is = rw at8 (take_at r.settings _ (settings_size form) a.settings)

    pub luma_is : luma_at (bytes_of r ++ t) ≡ r.width * r.height
    luma_is = rw (width_is, height_is)

    pub chroma_is : chroma_at form (bytes_of r ++ t) ≡ chroma_bytes form r.settings r.width r.height
    chroma_is = rw (settings_is, width_is, height_is)

    pub size_bytes : size_at form (bytes_of r ++ t) ≡ length (bytes_of r)
    unfolding size_at
    size_bytes = rw (luma_is, chroma_is) (sym length_bytes)

    pub stands_bytes : record_stands form (bytes_of r ++ t) ≡ true
    stands_bytes = Stands-is form (bytes_of r ++ t) (record {
      header = rw length-append (omega (arith, length_bytes));
      width = rw width_is a.width;
      height = rw height_is a.height;
      codes = rw settings_is a.codes;
      whole = rw (length-append, size_bytes) (omega arith);
    })

    pub y_part : take (length r.y) (drop (header_size form) (bytes_of r ++ t)) ≡ r.y
    y_part = rw at_y (take_at r.y _ _ refl)

    pub u_part : take (length r.u) (drop (header_size form + length r.y) (bytes_of r ++ t)) ≡ r.u
    u_part = rw (a.y_size, at_u) (take_at r.u _ _ refl)

    pub v_part : take (length r.v) (drop (header_size form + length r.y + length r.u) (bytes_of r ++ t)) ≡ r.v
    v_part = rw (a.y_size, a.u_size, at_v) (take_at r.v t _ refl)

    pub record_bytes_lem : record_at form (bytes_of r ++ t) ≡ r
    unfolding record_at
    record_bytes_lem = λ i. record {
      crossing = crossing_is i;
      width = width_is i;
      height = height_is i;
      settings = settings_is i;
      y = y_is i;
      u = u_is i;
      v = v_is i;
    }
      where
        y_is : take (luma_at (bytes_of r ++ t)) (drop (header_size form) (bytes_of r ++ t)) ≡ r.y
        y_is = rw (luma_is, at_y) (take_at r.y _ _ a.y_size)

        u_is : take (chroma_at form (bytes_of r ++ t)) (drop (header_size form + luma_at (bytes_of r ++ t)) (bytes_of r ++ t)) ≡ r.u
        u_is = rw (chroma_is, luma_is, at_u) (take_at r.u _ _ a.u_size)

        v_is : take (chroma_at form (bytes_of r ++ t)) (drop (header_size form + luma_at (bytes_of r ++ t) + chroma_at form (bytes_of r ++ t)) (bytes_of r ++ t)) ≡ r.v
        v_is = rw (chroma_is, luma_is, at_v) (take_at r.v t _ a.v_size)
