-- A moved record: its bytes, its size, that it is allowed, and that moved again it is the record. Assumes nothing.
use Prim.Native.Nat.{ℕ, ◌+◌}
use mathlib.Core.Path.{◌≡◌, refl, ap, sym, ◌∙◌}
use mathlib.Core.Bool.{true}
use mathlib.Core.List.{List, ◌++◌, append_assoc}
use native.Mathlib.Omega.{arith}
use lib.Dec.{eqb}
use lib.ListN.{length, get_or, take, drop, length-append}
use lib.Seq.{sets, take_at, drop_at}
use borrow.Author.Tests.{eqb-true}
use Rattle.std.proofs.lemmas.Bool.{and_parts}
use Rattle.std.proofs.lemmas.List.{nil_from_length}
use Rattle.std.proofs.NetLemmas.Arrays.{four_items}
use Rattle.yuv_support.specs.declared.YuvChromaSubsampling.TheVariants.{Yuv420}
use Rattle.little_endian.specs.Number.{low_bytes}
use Rattle.little_endian.proofs.Number.{length_low}
use Rattle.little_endian.proofs.Stores.{sets-append}
use Rattle.shift_file.specs.declared.ShiftForm.{ShiftForm}
use Rattle.shift_file.specs.declared.ShiftForm.TheVariants.{WithoutSettings, WithSettings}
use Rattle.shift_file.specs.File.{ShiftRecord, Allowed, settings_size, header_size, sampling_of, chroma_bytes, codes_allowed, bytes_of}
use Rattle.shift_move.specs.Move.{plain_settings, is_plain, moved_record}

-- the settings are plain, in a form that has any
abbrev pub Plain : ShiftForm → ShiftRecord → Type 0
Plain WithoutSettings r = Unit {0}
Plain WithSettings r = is_plain r.settings ≡ true

pub length_plain : (form : ShiftForm) → length (plain_settings form) ≡ settings_size form
length_plain WithoutSettings = refl
length_plain WithSettings = refl

plain_allowed : (form : ShiftForm) → codes_allowed form (plain_settings form) ≡ true
plain_allowed WithoutSettings = refl
plain_allowed WithSettings = refl

plain_sampling : (form : ShiftForm) → sampling_of form (plain_settings form) ≡ Yuv420
plain_sampling WithoutSettings = refl
plain_sampling WithSettings = refl

-- ---- the bytes

module _ (r : ShiftRecord) where
  -- crossing, width and height
  abbrev top : List ℕ
  top = low_bytes 4 r.crossing ++ (low_bytes 2 r.width ++ low_bytes 2 r.height)

  abbrev planes : List ℕ
  planes = r.y ++ (r.u ++ r.v)

  length-top : length top ≡ 8
  length-top = simp (length-append, length_low)

  parts : bytes_of r ≡ top ++ (r.settings ++ planes)
  unfolding bytes_of
  parts = simp append_assoc

  pub first_eight : take 8 (bytes_of r) ≡ top
  first_eight = rw parts (take_at top (r.settings ++ planes) 8 length-top)

  past_settings : (n : ℕ) → length r.settings ≡ n → drop (8 + n) (bytes_of r) ≡ planes
  past_settings n e =
      let front : bytes_of r ≡ (top ++ r.settings) ++ planes = parts ∙ sym (append_assoc top r.settings planes) in
      rw front (drop_at (top ++ r.settings) planes (8 + n) (length-append top r.settings ∙ rw (length-top, e)))

module _ (to from : ShiftForm) (r : ShiftRecord) (e : length r.settings ≡ settings_size from) where
  pub moved_bytes : bytes_of (moved_record to r) ≡ take 8 (bytes_of r) ++ (plain_settings to ++ drop (header_size from) (bytes_of r))
  moved_bytes = parts (moved_record to r) ∙ rw (first_eight r, past_settings r (settings_size from) e)

  pub length_moved : length (bytes_of (moved_record to r)) + header_size from ≡ length (bytes_of r) + header_size to
  unfolding bytes_of
  length_moved = simp (length-append, length_low) (omega (arith, e, length_plain to))

  -- header, settings and planes put one after the other
  record_put : (d : List ℕ)
      → sets (sets (sets d 0 (take 8 (bytes_of r))) 8 (plain_settings to)) (header_size to) (drop (header_size from) (bytes_of r))
      ≡ sets d 0 (bytes_of (moved_record to r))
  record_put d =
      let head = take 8 (bytes_of r) in
      let rest = drop (header_size from) (bytes_of r) in
      let eight : length head ≡ 8 = ap length (first_eight r) ∙ length-top r in
      rw (moved_bytes, sets-append head (plain_settings to ++ rest) d 0, eight, sets-append (plain_settings to) rest (sets d 0 head) 8, length_plain to)

  -- the same, from what each step tells
  pub record_steps : (d out₁ out₂ out₃ bytes head rest : List ℕ) (form : ShiftForm) (start n : ℕ) → bytes ≡ bytes_of r → head ≡ take 8 bytes
      → out₁ ≡ sets d 0 head → form ≡ to → out₂ ≡ sets out₁ 8 (plain_settings form) → n ≡ header_size from → rest ≡ drop n bytes
      → start ≡ header_size to → out₃ ≡ sets out₂ start rest → out₃ ≡ sets d 0 (bytes_of (moved_record to r))
  record_steps d out₁ out₂ out₃ bytes head rest form start n eb eh e₁ ef e₂ en er es e₃ =
      rw (e₃, e₂, e₁, er, eh, eb, en, es, ef) (record_put d)

-- ---- the record

-- settings that may move are those that moving sets
pub Plain-is : (from : ShiftForm) (r : ShiftRecord) → length r.settings ≡ settings_size from → Plain from r → plain_settings from ≡ r.settings
Plain-is WithoutSettings r e p = sym (nil_from_length r.settings e)
Plain-is WithSettings r e p =
    let s = r.settings in
    let a = and_parts (eqb (get_or s 0 0) 0) _ p in
    let b = and_parts (eqb (get_or s 1 0) 255) _ a.1 in
    let c = and_parts (eqb (get_or s 2 0) 255) _ b.1 in
    rw (eqb-true (get_or s 0 0) 0 a.0, eqb-true (get_or s 1 0) 255 b.0, eqb-true (get_or s 2 0) 255 c.0, eqb-true (get_or s 3 0) 255 c.1)
    at (sym (four_items s e))

module _ (from : ShiftForm) (r : ShiftRecord) (a : Allowed from r) (p : Plain from r) where
  moved_chroma : (to : ShiftForm) (w h : ℕ) → chroma_bytes from r.settings w h ≡ chroma_bytes to (plain_settings to) w h
  unfolding chroma_bytes
  moved_chroma to w h = rw (← Plain-is from r a.settings p, plain_sampling from, plain_sampling to)

  pub moved_Allowed : (to : ShiftForm) → Allowed to (moved_record to r)
  moved_Allowed to = record {
    crossing = a.crossing;
    width = a.width;
    height = a.height;
    settings = length_plain to;
    codes = plain_allowed to;
    y_size = a.y_size;
    u_size = a.u_size ∙ moved_chroma to r.width r.height;
    v_size = a.v_size ∙ moved_chroma to r.width r.height;
    y_bytes = a.y_bytes;
    u_bytes = a.u_bytes;
    v_bytes = a.v_bytes;
  }

  pub moved_again : (to : ShiftForm) → moved_record from (moved_record to r) ≡ r
  moved_again to = λ i. record {
    crossing = r.crossing;
    width = r.width;
    height = r.height;
    settings = Plain-is from r a.settings p i;
    y = r.y;
    u = r.u;
    v = r.v;
  }
