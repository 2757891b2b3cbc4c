-- A picture and its bytes, and pictures back to back: what stands at the front of `picture_bytes p ++ t` is p, and where a picture stands whole,
-- `picture_bytes` gives its bytes again.
-- Assumes nothing.
use Prim.Native.Nat.{ℕ, zero, suc, ◌+◌, ◌*◌, ◌-◌, ◌≤◌}
use mathlib.Core.Path.{◌≡◌, refl, ap, ap₂, sym, ◌∙◌}
use mathlib.Core.Bool.{true}
use mathlib.Core.List.{List, [], ◌∷◌, ◌++◌, append_assoc}
use native.Mathlib.Omega.{arith}
use lib.Dec.{ltb}
use lib.ListN.{length, take, drop, length-append, length-drop, take-append-drop}
use lib.Seq.{take-add, drop-drop, drop_at, take_at, length-take-le}
use borrow.Author.Tests.{lt-ltb, ltb-true, eqb-true}
use Rattle.std.proofs.lemmas.Bool.{and_from, and_parts}
use Rattle.std.proofs.lemmas.List.{nil_from_length}
use Rattle.y4m_line.specs.Line.{line_of, frame, text_of}
use Rattle.y4m_line.specs.Header.{tags_in, is_line, line_end}
use Rattle.y4m_line.proofs.Text.{frame_tag, tags_text, text_line, length_line, end_is, end_short, text_is, rest_is, front_line, front_split}
use Rattle.y4m_file.specs.File.{Y4mPicture, PictureAllowed, EachAllowed, picture_bytes, pictures_bytes}
use Rattle.y4m_file.specs.Check.{picture_size, pictures, header_of, rest_of}
use Rattle.y4m_file.specs.Read.{picture_at, pictures_from}
use Rattle.y4m_file.proofs.Sizes.{Stands, Stands-true, size_is}

module _ (luma chroma : ℕ) where
  -- the bytes of the planes
  abbrev pub sum : ℕ
  sum = luma + 2 * chroma

  pub cut : (r : List ℕ) → take luma r ++ (take chroma (drop luma r) ++ take chroma (drop (luma + chroma) r)) ≡ take sum r
  cut r =
      let n : sum ≡ luma + (chroma + chroma) = omega arith in
      let chromas : take (chroma + chroma) (drop luma r) ≡ take chroma (drop luma r) ++ take chroma (drop (luma + chroma) r)
      = take-add chroma chroma (drop luma r) ∙ rw (drop-drop chroma luma r) in
      sym (rw n (take-add luma (chroma + chroma) r ∙ ap (λ s. take luma r ++ s) chromas))

  -- ---- from the bytes to the picture

  module _ (l : List ℕ) (s : Stands sum l) where
    pub after_picture : drop (picture_size sum l) l ≡ drop sum (rest_of l)
    after_picture = rw s.size (sym (drop-drop sum (line_end l + 1) l))

    pub picture_split : picture_bytes (picture_at luma chroma l) ++ drop (picture_size sum l) l ≡ l
    unfolding picture_bytes picture_at
    picture_split =
        rw (cut (rest_of l), after_picture)
        (append_assoc (line_of frame (tags_in (header_of l))) (take sum (rest_of l)) (drop sum (rest_of l))
        ∙ ap (λ r. line_of frame (tags_in (header_of l)) ++ r) (take-append-drop sum (rest_of l))
        ∙ front_split l s.short frame s.line)

    pub picture_allowed : PictureAllowed luma chroma (picture_at luma chroma l)
    unfolding picture_at
    picture_allowed =
        let long : length (rest_of l) ≡ length l - (line_end l + 1) = length-drop (line_end l + 1) l in
        record {
          line = front_line l s.short frame s.line;
          y_size = length-take-le luma (rest_of l) (omega (arith, s.whole));
          u_size = length-take-le chroma (drop luma (rest_of l)) (rw length-drop (omega (arith, s.whole)));
          v_size = length-take-le chroma (drop (luma + chroma) (rest_of l)) (rw length-drop (omega (arith, s.whole)));
        }

  -- ---- from the picture to the bytes

  module _ (p : Y4mPicture) (a : PictureAllowed luma chroma p) (t l : List ℕ) (here : l ≡ picture_bytes p ++ t) where
    line_first : l ≡ line_of frame p.tags ++ (p.y ++ (p.u ++ (p.v ++ t)))
    unfolding picture_bytes
    line_first = here ∙ simp append_assoc

    rest : rest_of l ≡ p.y ++ (p.u ++ (p.v ++ t))
    rest = rest_is frame p.tags frame_tag a.line _ l line_first

    past_y : drop luma (rest_of l) ≡ p.u ++ (p.v ++ t)
    past_y = rw rest (drop_at p.y _ luma a.y_size)

    past_u : drop (luma + chroma) (rest_of l) ≡ p.v ++ t
    past_u = sym (drop-drop chroma luma (rest_of l)) ∙ rw past_y (drop_at p.u _ chroma a.u_size)

    past_v : drop sum (rest_of l) ≡ t
    past_v =
        let n : luma + chroma + chroma ≡ sum = omega arith in
        rw (← n) (sym (drop-drop chroma (luma + chroma) (rest_of l)) ∙ rw past_u (drop_at p.v t chroma a.v_size))

    header : header_of l ≡ text_of frame p.tags
    header = text_is frame p.tags frame_tag a.line _ l line_first

    -- its line ends where its planes start
    pub line_there : line_end l + 1 ≡ length (line_of frame p.tags)
    line_there = omega (arith, end_is frame p.tags frame_tag a.line _ l line_first, length_line frame p.tags)

    pub picture_is : picture_at luma chroma l ≡ p
    unfolding picture_at
    picture_is = λ i. record { tags = tags_are i; y = y_is i; u = u_is i; v = v_is i }
      where
        tags_are : tags_in (header_of l) ≡ p.tags
        tags_are = ap tags_in header ∙ tags_text frame p.tags frame_tag a.line.each

        y_is : take luma (rest_of l) ≡ p.y
        y_is = rw rest (take_at p.y _ luma a.y_size)

        u_is : take chroma (drop luma (rest_of l)) ≡ p.u
        u_is = rw past_y (take_at p.u _ chroma a.u_size)

        v_is : take chroma (drop (luma + chroma) (rest_of l)) ≡ p.v
        v_is = rw past_u (take_at p.v t chroma a.v_size)

    long : line_end l + 1 + sum ≤ length l
    long =
        omega (
          arith,
          end_is frame p.tags frame_tag a.line _ l line_first,
          length_line frame p.tags,
          ap length line_first,
          length-append (line_of frame p.tags) (p.y ++ (p.u ++ (p.v ++ t))),
          length-append p.y (p.u ++ (p.v ++ t)),
          length-append p.u (p.v ++ t),
          length-append p.v t,
          a.y_size,
          a.u_size,
          a.v_size,
        )

    pub size_there : picture_size sum l ≡ line_end l + 1 + sum
    size_there =
        size_is sum l (end_short frame p.tags frame_tag a.line _ l line_first)
        (ap (is_line frame) header ∙ text_line frame p.tags frame_tag a.line.each) long

    pub next_there : drop (picture_size sum l) l ≡ t
    next_there = rw size_there (sym (drop-drop sum (line_end l + 1) l) ∙ past_v)

  pub length_picture : (p : Y4mPicture) → PictureAllowed luma chroma p → length (picture_bytes p) ≡ length (line_of frame p.tags) + sum
  unfolding picture_bytes
  length_picture p a =
      omega (
        arith,
        length-append (line_of frame p.tags) (p.y ++ (p.u ++ p.v)),
        length-append p.y (p.u ++ p.v),
        length-append p.u p.v,
        a.y_size,
        a.u_size,
        a.v_size,
      )

  -- ---- pictures back to back

  pub pictures_are : (ps : List Y4mPicture) → EachAllowed luma chroma ps
      → (pictures sum (length ps) (pictures_bytes ps) ≡ true) × (pictures_from luma chroma (length ps) (pictures_bytes ps) ≡ ps)
  unfolding pictures pictures_bytes pictures_from
  pictures_are [] e = (refl, refl)
  pictures_are (p ∷ ps) e =
      let l = picture_bytes p ++ pictures_bytes ps in
      let ih = pictures_are ps e.1 in
      let size = size_there p e.0 (pictures_bytes ps) l refl in
      let next = next_there p e.0 (pictures_bytes ps) l refl in (
        and_from (ltb 0 (picture_size sum l)) _ (lt-ltb 0 (picture_size sum l) (omega (arith, size))) (rw next ih.0),
        ap₂ (λ q qs. q ∷ qs) (picture_is p e.0 (pictures_bytes ps) l refl) (rw next ih.1),
      )

  pub pictures_split : (k : ℕ) (l : List ℕ) → pictures sum k l ≡ true
      → EachAllowed luma chroma (pictures_from luma chroma k l) × (pictures_bytes (pictures_from luma chroma k l) ≡ l)
  unfolding pictures pictures_bytes pictures_from
  pictures_split zero l e = (tt, sym (nil_from_length l (eqb-true (length l) 0 e)))
  pictures_split (suc k) l e =
      let p = and_parts (ltb 0 (picture_size sum l)) _ e in
      let s = Stands-true sum l (ltb-true 0 (picture_size sum l) p.0) in
      let ih = pictures_split k (drop (picture_size sum l) l) p.1 in
      ((picture_allowed l s, ih.0), rw ih.1 (picture_split l s))

  pub length_from : (k : ℕ) (l : List ℕ) → length (pictures_from luma chroma k l) ≡ k
  unfolding pictures_from
  length_from zero l = refl
  length_from (suc k) l = ap suc (length_from k (drop (picture_size sum l) l))
