-- Record k of a file, where it stands: its pair and its header tell it, and what follows is the record. Assumes nothing.
use Prim.Native.Nat.{ℕ, zero, suc, ◌+◌, ◌*◌, ◌^◌, ◌≤◌, ◌<◌}
use mathlib.Core.Path.{◌≡◌, refl, ap, sym, ◌∙◌}
use mathlib.Core.Bool.{true}
use mathlib.Core.List.{List, [], ◌∷◌, ◌++◌, append_assoc, append-nil}
use native.Mathlib.Omega.{arith}
use lib.ListN.{length, take, drop, length-append, length-drop}
use lib.Seq.{drop-drop, drop-append-le, take_at}
use Rattle.little_endian.specs.Number.{Bytes, low_bytes, number_in}
use Rattle.shift_file.specs.declared.ShiftForm.{ShiftForm}
use Rattle.shift_file.specs.File.{ShiftRecord, Allowed, EachAllowed, IsFileOf, file_of, header_size, pairs_at, records_at, bytes_of, pairs_of, record_bytes}
use Rattle.shift_file.specs.Read.{width_at, height_at, luma_at, chroma_at, settings_at, count_at, records_in}
use Rattle.shift_file.specs.Check.{is_file}
use Rattle.shift_file.proofs.Record.{size_most, length_bytes, crossing_is, width_is, height_is, luma_is, chroma_is, settings_is, y_part, u_part, v_part}
use Rattle.shift_file.proofs.Walk.{offset_in, extent_in}
use Rattle.shift_file.proofs.File.{Checked, Checked-file, length_pairs, after_count, after_pairs, length_file, file_most, bytes_at, pairs_at_lem}
use Rattle.shift_reader.specs.Entry.{no_record, nth, record_of, offset_of}

pub allowed_at : (form : ShiftForm) (k : ℕ) (rs : List ShiftRecord) → EachAllowed form rs → k < length rs → Allowed form (nth rs k)
allowed_at form k [] e h = absurd (omega arith)
allowed_at form zero (r ∷ rs) e h = e.0
allowed_at form (suc k) (r ∷ rs) e h = allowed_at form k rs e.1 (omega arith)

pub pairs_inside : (form : ShiftForm) (b : List ℕ) (rs : List ShiftRecord) → IsFileOf form b rs → pairs_at form ≤ length b
pairs_inside form b rs f = rw (← f.same) (omega (arith, length_file form rs))

module _ (form : ShiftForm) (b : List ℕ) (rs : List ShiftRecord) (k : ℕ) (f : IsFileOf form b rs) (h : k < length rs) where
  pub allowed : Allowed form (nth rs k)
  allowed = allowed_at form k rs f.has.each h

  pub bytes_there : drop (offset_of form rs k) b ≡ bytes_of (nth rs k) ++ record_bytes (drop (suc k) rs)
  bytes_there =
      rw (← f.same)
      (sym (drop-drop (length (record_bytes (take k rs))) (records_at form (length rs)) (file_of form rs))
      ∙ rw (after_pairs form rs) (bytes_at no_record k rs h))

  -- what stands past the pair of record k
  later : List ℕ
  later = pairs_of (records_at form (length rs) + length (record_bytes (take (suc k) rs))) (drop (suc k) rs) ++ record_bytes rs

  pair_there : drop (pairs_at form + 12 * k) b ≡ low_bytes 8 (offset_of form rs k) ++ (low_bytes 4 (length (bytes_of (nth rs k))) ++ later)
  unfolding later
  pair_there =
      let start = records_at form (length rs) in
      rw (← f.same)
      (sym (drop-drop (12 * k) (pairs_at form) (file_of form rs))
      ∙ rw (after_count form rs, drop-append-le (12 * k) (pairs_of start rs) (record_bytes rs) (rw length_pairs (omega arith)), pairs_at_lem no_record k start rs h)
      (simp append_assoc))

  pub pair_inside : pairs_at form + 12 * k + 12 ≤ length b
  pair_inside = rw (← f.same) (omega (arith, length_file form rs))

  pub short : length b < 2 ^ 64
  short = rw (← f.same) (file_most form rs f.has)

  pub bytes_inside : offset_of form rs k + length (bytes_of (nth rs k)) ≤ length b
  bytes_inside =
      omega (
        arith,
        length-drop (offset_of form rs k) b,
        ap length bytes_there,
        length-append (bytes_of (nth rs k)) (record_bytes (drop (suc k) rs)),
        length_bytes form (nth rs k) allowed,
      )

  -- header and planes end with the record
  pub planes_inside : offset_of form rs k + header_size form + length (nth rs k).y + length (nth rs k).u + length (nth rs k).v ≤ length b
  planes_inside =
      let a = allowed in
      omega (arith, bytes_inside, length_bytes form (nth rs k) a, a.y_size, a.u_size, a.v_size)

  pub offset_read : number_in 8 (drop (pairs_at form + 12 * k) b) ≡ offset_of form rs k
  offset_read = offset_in _ later (offset_of form rs k) (length (bytes_of (nth rs k))) pair_there (omega (arith, bytes_inside, short))

  pub size_read : number_in 4 (drop (pairs_at form + 12 * k + 8) b) ≡ length (bytes_of (nth rs k))
  size_read =
      rw (← drop-drop 8 (pairs_at form + 12 * k) b)
      (extent_in _ later (offset_of form rs k) (length (bytes_of (nth rs k))) pair_there (omega (arith, size_most form (nth rs k) allowed)))

  pub record_there : take (length (bytes_of (nth rs k))) (drop (offset_of form rs k) b) ≡ bytes_of (nth rs k)
  record_there = rw bytes_there (take_at (bytes_of (nth rs k)) _ _ refl)

  module _ (n : ℕ) where
    from_record : drop (offset_of form rs k + n) b ≡ drop n (bytes_of (nth rs k) ++ record_bytes (drop (suc k) rs))
    from_record = sym (drop-drop n (offset_of form rs k) b) ∙ rw bytes_there

  pub y_there : take (length (nth rs k).y) (drop (offset_of form rs k + header_size form) b) ≡ (nth rs k).y
  y_there = rw (from_record (header_size form)) (y_part form (nth rs k) allowed _)

  pub u_there : take (length (nth rs k).u) (drop (offset_of form rs k + header_size form + length (nth rs k).y) b) ≡ (nth rs k).u
  u_there =
      let sums : offset_of form rs k + header_size form + length (nth rs k).y ≡ offset_of form rs k + (header_size form + length (nth rs k).y) = omega arith in
      rw (sums, from_record (header_size form + length (nth rs k).y)) (u_part form (nth rs k) allowed _)

  pub v_there : take (length (nth rs k).v) (drop (offset_of form rs k + header_size form + length (nth rs k).y + length (nth rs k).u) b) ≡ (nth rs k).v
  v_there =
      let sums : offset_of form rs k + header_size form + length (nth rs k).y + length (nth rs k).u
      ≡ offset_of form rs k + (header_size form + length (nth rs k).y + length (nth rs k).u) = omega arith in
      rw (sums, from_record (header_size form + length (nth rs k).y + length (nth rs k).u)) (v_part form (nth rs k) allowed _)

-- where a header is
module _ (form : ShiftForm) (r : ShiftRecord) (a : Allowed form r) (t part : List ℕ) (here : part ≡ bytes_of r ++ t) where
  pub header_there : header_size form ≤ length part
  header_there = rw (here, length-append) (omega (arith, length_bytes form r a))

-- the settings as they stand in the record's bytes
pub settings_there : (form : ShiftForm) (r : ShiftRecord) → Allowed form r → settings_at form (bytes_of r) ≡ r.settings
settings_there form r a = ap (settings_at form) (sym (append-nil (bytes_of r))) ∙ settings_is form r a []

-- ---- all of this, of record k of a file

pub record There (form : ShiftForm) (b : List ℕ) (k : ℕ) : Type 0 where
  pub pair : pairs_at form + 12 * k + 12 ≤ length b
  pub offset : number_in 8 (drop (pairs_at form + 12 * k) b) ≡ offset_of form (records_in form b) k
  pub size : number_in 4 (drop (pairs_at form + 12 * k + 8) b) ≡ length (bytes_of (record_of form b k))
  pub inside : offset_of form (records_in form b) k + length (bytes_of (record_of form b k)) ≤ length b
  pub header : header_size form ≤ length (drop (offset_of form (records_in form b) k) b)
  pub crossing : number_in 4 (drop (offset_of form (records_in form b) k) b) ≡ (record_of form b k).crossing
  pub width : width_at (drop (offset_of form (records_in form b) k) b) ≡ (record_of form b k).width
  pub height : height_at (drop (offset_of form (records_in form b) k) b) ≡ (record_of form b k).height
  pub luma : luma_at (drop (offset_of form (records_in form b) k) b) ≡ length (record_of form b k).y
  pub chroma : chroma_at form (drop (offset_of form (records_in form b) k) b) ≡ length (record_of form b k).u
  pub chroma_again : length (record_of form b k).v ≡ length (record_of form b k).u
  pub planes : offset_of form (records_in form b) k + header_size form + length (record_of form b k).y + length (record_of form b k).u + length (record_of form b k).v ≤ length b
  pub bytes : take (length (bytes_of (record_of form b k))) (drop (offset_of form (records_in form b) k) b) ≡ bytes_of (record_of form b k)
  pub y : take (length (record_of form b k).y) (drop (offset_of form (records_in form b) k + header_size form) b) ≡ (record_of form b k).y
  pub u : take (length (record_of form b k).u) (drop (offset_of form (records_in form b) k + header_size form + length (record_of form b k).y) b) ≡ (record_of form b k).u
  pub v : take (length (record_of form b k).v) (drop (offset_of form (records_in form b) k + header_size form + length (record_of form b k).y + length (record_of form b k).u) b)
      ≡ (record_of form b k).v
  pub settings : settings_at form (bytes_of (record_of form b k)) ≡ (record_of form b k).settings
  pub short_header : header_size form ≤ length (bytes_of (record_of form b k))

-- what the check says of a file
pub record Known (form : ShiftForm) (b : List ℕ) : Type 0 where
  pub its : IsFileOf form b (records_in form b)
  pub count : length (records_in form b) ≡ count_at form b
  pub few : count_at form b ≤ 4096
  pub header : pairs_at form ≤ length b

pub known : (form : ShiftForm) (b : List ℕ) → is_file form b ≡ true → Bytes b → Known form b
known form b e bytes =
    let c : Checked form b = Checked-file form b bytes e in record {
      its = c.file;
      count = c.count;
      few = omega (arith, c.count, c.file.has.few);
      header = pairs_inside form b (records_in form b) c.file;
    }

pub there : (form : ShiftForm) (b : List ℕ) (k n : ℕ) → is_file form b ≡ true → Bytes b → n ≡ count_at form b → k < n → There form b k
there form b k n e bytes counted below =
    let c : Known form b = known form b e bytes in
    let f : IsFileOf form b (records_in form b) = c.its in
    let h : k < length (records_in form b) = omega (arith, c.count) in
    let rs = records_in form b in
    let r = record_of form b k in
    let a : Allowed form r = allowed form b rs k f h in
    let t = record_bytes (drop (suc k) rs) in
    let here : drop (offset_of form rs k) b ≡ bytes_of r ++ t = bytes_there form b rs k f h in
    record {
      pair = pair_inside form b rs k f h;
      offset = offset_read form b rs k f h;
      size = size_read form b rs k f h;
      inside = bytes_inside form b rs k f h;
      header = header_there form r a t _ here;
      crossing = rw here (crossing_is form r a t);
      width = rw here (width_is form r a t);
      height = rw here (height_is form r a t);
      luma = rw here (luma_is form r a t) ∙ sym a.y_size;
      chroma = rw here (chroma_is form r a t) ∙ sym a.u_size;
      chroma_again = a.v_size ∙ sym a.u_size;
      planes = planes_inside form b rs k f h;
      bytes = record_there form b rs k f h;
      y = y_there form b rs k f h;
      u = u_there form b rs k f h;
      v = v_there form b rs k f h;
      settings = settings_there form r a;
      short_header = omega (arith, length_bytes form r a);
    }
