-- Demand 3 speaks of something. Whatever calls were accepted, there is an accepted frame call with their rows. And every frame that a frame
-- call accepts can be handed over in two bands, cut anywhere, with refused calls before and between them.
-- Assumes nothing.
use Prim.Native.Nat.{ℕ, ◌+◌, ◌*◌, ◌-◌, ◌/◌, ◌%◌, ◌≤◌, ◌<◌}
use mathlib.Core.Path.{◌≡◌, refl, sym, ap, ◌∙◌}
use mathlib.Core.Bool.{true, false}
use mathlib.Core.List.{List, [], ◌∷◌, map}
use native.Mathlib.Nat.{le_refl, le_trans, mul_comm, mul-sub, mul-le-mul_left}
use native.Mathlib.Omega.{arith}
use lib.ListN.{length, get_or, take, drop, length-take, length-drop, replicate, length-replicate}
use lib.Seq.{ext_get_or, get_or-take, get_or-drop}
use Rattle.std.specs.Prelude.{Ok, Err}
use Rattle.yuv_error.specs.declared.YuvError.TheVariants.{ZeroBaseSize}
use Rattle.definitions.specs.declared.FrameDescription.{FrameDescription}
use Rattle.definitions.specs.Image.{whole_source, row_bytes, row_size, row_start, chroma_size, chroma_rows, frame_image}
use Rattle.definitions.specs.Bands.{own_rows, band_image}
use Rattle.yuv_error.specs.Known.{Sized, Given, PlanesLent}
use Rattle.definitions.proofs.Numbers.{row_end}
use Rattle.definitions.proofs.Planes.{row_of}
use Rattle.yuv_error.specs.Lent.{lengths_of}
use Rattle.yuv_error.proofs.Accepted.{Buffers}
use Rattle.yuv_error.proofs.Accepts.{opening_passes}
use Rattle.sharp_rgba_to_yuv.specs.FrameCall.{FrameCall, frame_call}
use Rattle.sharp_rgba_to_yuv.proofs.Accepted.{Accepted, frame_passes}
use Rattle.band_calls.specs.declared.FrameState.{FrameState}
use Rattle.band_calls.specs.declared.FrameAnswer.{FrameAnswer}
use Rattle.band_calls.specs.BandCall.{state_of, band_of, BandCall, band_call, BandPost}
use Rattle.band_lists.specs.BandLists.{Fresh, AllMet, is_accepted, Tally, tabulate, no_rows, tally_of, none, Chained, SameRows}
use Rattle.band_calls.proofs.Accepted.{AcceptedBand, band_passes, carried_few}
use Rattle.band_calls.proofs.Post.{refused, finished}
use Rattle.band_lists.proofs.Tally.{Fits, Fits-none, length-tabulate, get_d_tabulate}
use Rattle.band_lists.proofs.Run.{of_calls}
use Rattle.band_lists.proofs.Demand3.{opening_Sized}
use Rattle.band_lists.proofs.Repainted.{can_paint, can_sharpen}

-- ---- a frame call with the tally's rows, then zeros, and no padding

-- h rows of `size` bytes, laid end to end
abbrev laid : (size h : ℕ) → (ℕ → List ℕ) → List ℕ
laid size h row = tabulate (size * h) (λ p. get_or (row (p / size)) (p % size) 0)

laid_row : (size h : ℕ) (row : ℕ → List ℕ) (r : ℕ) → r < h → length (row r) ≡ size → take size (drop (r * size) (laid size h row)) ≡ row r
laid_row size h row r l e = ext_get_or 0 _ _ (long ∙ sym e) (λ i m. byte i (omega (arith, long)))
  where
    inside : r * size + size ≤ size * h
    inside = omega (arith, row_end r h size l, mul_comm size h)

    long : length (take size (drop (r * size) (laid size h row))) ≡ size
    long = simp (length-take, length-drop, length-tabulate) (omega (arith, inside))

    byte : (i : ℕ) → i < size → get_or (take size (drop (r * size) (laid size h row))) i 0 ≡ get_or (row r) i 0
    byte i m =
        let w = row_of r size i (r * size + i) m refl in
        get_or-take size _ i 0 m ∙ get_or-drop (r * size) (laid size h row) i 0 ∙ get_d_tabulate (size * h) _ (r * size + i) 0 (omega (arith, inside))
        ∙ rw (w.0, w.1)

abbrev source_with : FrameDescription → Tally → List ℕ
source_with d t = laid (row_size d) d.height (λ r. get_or t.rows r [])

abbrev unpadded : FrameDescription → FrameDescription
unpadded d = record {
  width = d.width;
  height = d.height;
  window = whole_source d.width d.height;
  settings = d.settings;
  y_stride = d.width;
  u_stride = chroma_size d;
  v_stride = chroma_size d;
}

abbrev luma_zeros : FrameDescription → List ℕ
luma_zeros d = replicate (d.width * d.height) 0

abbrev chroma_zeros : FrameDescription → List ℕ
chroma_zeros d = replicate (chroma_size d * chroma_rows d) 0

module _ (d : FrameDescription) (sized : Sized d) (t : Tally) (fits : Fits d t) where
  lent : Buffers (unpadded d) d.height (row_size d) (lengths_of (source_with d t) (luma_zeros d) (chroma_zeros d) (chroma_zeros d))
  lent = record {
    source_row = le_refl (row_size d);
    source_size = length-tabulate (row_size d * d.height) _;
    planes = record {
      y_row = le_refl _;
      y_size = length-replicate _ 0;
      u_row = le_refl _;
      u_size = length-replicate _ 0;
      v_row = le_refl _;
      v_size = length-replicate _ 0;
    };
  }

  pub some_frame : (f : FrameCall) × SameRows d t f
  unfolding row_bytes
  some_frame =
      let same : Sized (unpadded d) = record {
        width_least = sized.width_least;
        width_most = sized.width_most;
        height_least = sized.height_least;
        height_most = sized.height_most;
        source_width_most = sized.width_most;
        source_height_most = sized.height_most;
        matrix = sized.matrix;
        right = omega arith;
        bottom = omega arith;
      } in
      let p = can_sharpen 0 (frame_image (unpadded d) (row_size d) (source_with d t)) lent.planes (le_refl d.height) in (
        frame_call (unpadded d) (row_size d) (source_with d t) (luma_zeros d) (chroma_zeros d) (chroma_zeros d) (Ok tt) p.0 p.1 p.2,
        record {
          met = record { answered = sym (frame_passes same lent); planes = p.3 };
          accepted = refl;
          width = refl;
          height = refl;
          settings = refl;
          rows = λ r l. ap (λ (p : ℕ). take (row_size d) (drop p (source_with d t))) (let e : row_start (unpadded d) (row_size d) (0 + r) ≡ r * row_size d
              = omega arith in e) ∙ laid_row (row_size d) d.height (λ r. get_or t.rows r []) r (omega (arith, fits.most)) (fits.long r l);
        },
      )

-- for every list of calls that demand 3 speaks of
pub frame_of_calls : (d : FrameDescription) (opening : FrameAnswer) (calls : List BandCall) → Fresh d opening → AllMet calls
    → Chained opening.state none calls
    → (f : FrameCall) × SameRows d (tally_of d no_rows calls) f
frame_of_calls d opening calls fresh met chain =
    some_frame d (opening_Sized d opening fresh) (tally_of d no_rows calls)
    (of_calls d opening.state fresh.met.state (λ t first last. Fits d t) (Fits-none d) (λ t i j run. run.fits) calls met chain)

-- ---- a frame in two bands, and refused calls

-- a call that is handed a forged state and no buffers
abbrev turned_away : FrameDescription → BandCall
turned_away d =
    let s : FrameState = record {
      frame = record { width = 0; height = 0; window = d.window; settings = d.settings; y_stride = 0; u_stride = 0; v_stride = 0 };
      done = 7;
    } in
    band_call s 0 0 [] [] [] [] [] (record { state = s; answer = Err ZeroBaseSize }) [] [] [] []

turned_away_met : (d : FrameDescription) → BandPost (turned_away d)
turned_away_met d = refused (turned_away d).state 0 0 [] [] [] [] [] (Err ZeroBaseSize) refl refl

-- a call that is given and lent what it needs, with what it leaves
pub record Taken (s : FrameState) (rows stride : ℕ) (source y u v carried : List ℕ) : Type 0 where
  pub y' : List ℕ
  pub u' : List ℕ
  pub v' : List ℕ
  pub carried' : List ℕ
  pub met : BandPost (band_call s rows stride source y u v carried (record { state = state_of s.frame (s.done + rows); answer = Ok tt }) y' u' v' carried')

module _ {s : FrameState} {rows stride : ℕ} {source y u v carried : List ℕ} where
  abbrev call_of : Taken s rows stride source y u v carried → BandCall
  call_of k =
      band_call s rows stride source y u v carried (record { state = state_of s.frame (s.done + rows); answer = Ok tt }) k.y' k.u' k.v'
      k.carried'

  is_accepted_lem : (k : Taken s rows stride source y u v carried) → AcceptedBand s rows stride (lengths_of source y u v) (length carried)
      → is_accepted (call_of k) ≡ true
  unfolding is_accepted
  is_accepted_lem k a = rw (band_passes s rows stride _ _ a)

taken : (s : FrameState) (rows stride : ℕ) (source y u v carried : List ℕ) → AcceptedBand s rows stride (lengths_of source y u v) (length carried)
    → Taken s rows stride source y u v carried
taken s rows stride source y u v carried a =
    let p = can_sharpen s.done (band_image (band_of s rows stride) source carried) a.planes a.given.rows_most in
    let few = le_trans (carried_few s.frame (s.done + rows)) a.carried_size in
    let c = can_paint _ (λ q. own_rows (band_of s rows stride) source (s.done + rows - 1) (q / 3) (q % 3)) carried few in
    record {
      y' = p.0;
      u' = p.1;
      v' = p.2;
      carried' = c.0;
      met = finished s rows stride source y u v carried (Ok tt) (sym (band_passes s rows stride _ _ a)) refl p.3 c.1;
    }

is_refused : (d : FrameDescription) → is_accepted (turned_away d) ≡ false
unfolding is_accepted
is_refused d = refl

-- what demand 3 asks of a list of calls
pub record Handed (d : FrameDescription) (calls : List BandCall) : Type 0 where
  pub opening : FrameAnswer
  pub fresh : Fresh d opening
  pub met : AllMet calls
  pub chained : Chained opening.state none calls

-- m rows of the frame in one band, and the others in the next
module _ (d : FrameDescription) (stride : ℕ) (source y u v : List ℕ) (a : Accepted d stride (lengths_of source y u v)) (m : ℕ) (some : 1 ≤ m)
    (fewer : m < d.height) (carried : List ℕ) (long : 3 * d.width ≤ length carried) where
  -- the source's rows with the frame in them
  abbrev its_rows : List ℕ
  its_rows = take (stride * d.height) (drop (d.window.top * stride) source)

  its_size : length its_rows ≡ stride * d.height
  its_size = simp (length-take, length-drop) (omega (arith, a.lent.given.source_size))

  first_size : length (take (stride * m) its_rows) ≡ stride * m
  first_size = length-take (stride * m) its_rows ∙ omega (arith, its_size, mul-le-mul_left {m = m} {n = d.height} stride (omega arith))

  second_size : length (drop (stride * m) its_rows) ≡ stride * (d.height - m)
  second_size = length-drop (stride * m) its_rows ∙ omega (arith, its_size, mul-sub stride d.height m)

  first_Given : Given (band_of (state_of d 0) m stride) (length (take (stride * m) its_rows))
  first_Given = record {
    rows_least = some;
    rows_most = omega arith;
    source_row = a.lent.given.source_row;
    source_size = omega (arith, first_size);
  }

  second_Given : Given (band_of (state_of d (0 + m)) (d.height - m) stride) (length (drop (stride * m) its_rows))
  second_Given = record {
    rows_least = omega arith;
    rows_most = omega arith;
    source_row = a.lent.given.source_row;
    source_size = omega (arith, second_size);
  }

  pub in_two_bands : (calls : List BandCall) × Handed d calls × (map is_accepted calls ≡ false ∷ true ∷ false ∷ true ∷ [])
      × ((tally_of d no_rows calls).n ≡ d.height)
  in_two_bands =
      let lent = a.lent.planes in
      let source₁ = take (stride * m) its_rows in
      let source₂ = drop (stride * m) its_rows in
      let a₁ : AcceptedBand (state_of d 0) m stride (lengths_of source₁ y u v) (length carried) =
      record { sized = a.lent.sized; given = first_Given; whole = first_size; planes = lent; carried_size = long } in
      let k₁ = taken (state_of d 0) m stride source₁ y u v carried a₁ in
      let p = k₁.met.planes in
      let after : PlanesLent d (length k₁.y') (length k₁.u') (length k₁.v') = record {
        y_row = lent.y_row;
        y_size = p.luma.size ∙ lent.y_size;
        u_row = lent.u_row;
        u_size = p.cb.size ∙ lent.u_size;
        v_row = lent.v_row;
        v_size = p.cr.size ∙ lent.v_size;
      } in
      let a₂ : AcceptedBand (state_of d (0 + m)) (d.height - m) stride (lengths_of source₂ k₁.y' k₁.u' k₁.v') (length k₁.carried') =
      record { sized = a.lent.sized; given = second_Given; whole = second_size; planes = after; carried_size = omega (arith, long, k₁.met.carry.size) } in
      let k₂ = taken (state_of d (0 + m)) (d.height - m) stride source₂ k₁.y' k₁.u' k₁.v' k₁.carried' a₂ in
      let no₁ = is_refused d in
      let yes₁ = is_accepted_lem k₁ a₁ in
      let yes₂ = is_accepted_lem k₂ a₂ in (
        turned_away d ∷ call_of k₁ ∷ turned_away d ∷ call_of k₂ ∷ [],
        record {
          opening = record { state = state_of d 0; answer = Ok tt };
          fresh = record { met = record { answered = sym (opening_passes a.lent.sized); state = refl }; accepted = refl };
          met = (turned_away_met d, (k₁.met, (turned_away_met d, (k₂.met, tt))));
          chained = rw (no₁, yes₁, yes₂) (refl, ((refl, refl, refl, refl, refl), tt));
        },
        rw (no₁, yes₁, yes₂),
        rw (no₁, yes₁, yes₂) (omega arith),
      )
