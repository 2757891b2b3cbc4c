-- A file and its bytes: the check says yes exactly where there is a file, and it is the one that is read, so it is the only one.
-- Assumes nothing.
use Prim.Native.Nat.{ℕ, zero, suc, ◌+◌, ◌*◌, ◌≤◌, ◌<◌}
use mathlib.Core.Path.{◌≡◌, refl, ap, sym, ◌∙◌}
use mathlib.Core.Bool.{Bool, true, false}
use mathlib.Core.List.{List, [], ◌∷◌}
use native.Mathlib.Omega.{arith}
use lib.Dec.{ltb, leb}
use lib.ListN.{length, get_or}
use borrow.Author.Tests.{lt-ltb, ltb-true, leb-true, le-leb}
use Rattle.std.proofs.lemmas.Bool.{and_from, and_parts}
use Rattle.yuv_support.specs.declared.YuvChromaSubsampling.{YuvChromaSubsampling}
use Rattle.yuv_support.specs.declared.YuvChromaSubsampling.TheVariants.{Yuv420, Yuv422}
use Rattle.y4m_line.specs.Line.{magic, text_of, tagged, SaysSide, text420, text420jpeg, text420mpeg2, text422}
use Rattle.y4m_line.specs.Words.{words, same}
use Rattle.y4m_line.specs.Header.{tags_in, is_line, is_header, line_end, one_size, one_code, code, width_of, height_of, sampling_of, sampling_said}
use Rattle.y4m_line.proofs.Text.{same_true, magic_tag, words_text, words_are, tags_text, text_line}
use Rattle.y4m_line.proofs.Text.{end_short, text_is, rest_is, front_line, front_split}
use Rattle.y4m_line.proofs.Says.{size_said, says_side}
use Rattle.y4m_file.specs.File.{Y4mFile, SaysSampling, texts, Allowed, IsFileOf, file_bytes, pictures_bytes, luma_bytes, chroma_bytes}
use Rattle.y4m_file.specs.Check.{header_of, rest_of, width_in, height_in, sampling_in}
use Rattle.y4m_file.specs.Check.{plane_bytes, planes_in, pictures, pictures_in, is_y4m}
use Rattle.y4m_file.specs.Read.{pictures_from, luma_in, chroma_in, file_in}
use Rattle.y4m_file.specs.Means.{SomeFile, OneFile, ReadBack, Rewritten}
use Rattle.y4m_file.proofs.Count.{count_of_lem}
use Rattle.y4m_file.proofs.Pictures.{pictures_are, pictures_split}

-- ---- the sampling

-- the code of a sampling's tags
abbrev code_of : YuvChromaSubsampling → ℕ
code_of Yuv420 = 1
code_of Yuv422 = 2

text_code : (s : YuvChromaSubsampling) (k : ℕ) → k < length (texts s) → one_code (get_or (texts s) k []) ≡ code_of s
unfolding code same
text_code Yuv420 zero h = refl
text_code Yuv420 (suc zero) h = refl
text_code Yuv420 (suc (suc zero)) h = refl
text_code Yuv420 (suc (suc (suc zero))) h = refl
text_code Yuv420 (suc (suc (suc (suc k)))) h = absurd (omega arith)
text_code Yuv422 zero h = refl
text_code Yuv422 (suc k) h = absurd (omega arith)

code_back : (s : YuvChromaSubsampling) → sampling_said (code_of s) ≡ s
code_back Yuv420 = refl
code_back Yuv422 = refl

code_some : (s : YuvChromaSubsampling) → 1 ≤ code_of s
code_some Yuv420 = omega arith
code_some Yuv422 = omega arith

code_said : (tags : List (List ℕ)) (s : YuvChromaSubsampling) → SaysSampling tags s → one_code (tagged 67 tags) ≡ code_of s
code_said tags s k = rw k.said (text_code s k.which k.known)

module _ (tags : List (List ℕ)) (t : List ℕ) (one : tagged 67 tags ≡ t ∷ []) (h : 1 ≤ code t) where
  says_422 : (b : Bool) → same t text422 ≡ b → same t text420 ≡ false → same t text420jpeg ≡ false → same t text420mpeg2 ≡ false
      → SaysSampling tags (sampling_said (code t))
  unfolding code
  says_422 true e e₁ e₂ e₃ =
      rw (e₁, e₂, e₃, e) (record { which = 0; known = omega arith; said = one ∙ ap (λ x. x ∷ []) (same_true t text422 e) })
  says_422 false e e₁ e₂ e₃ = let k : 1 ≤ 0 = rw (e₁, e₂, e₃, e) at h in absurd (omega arith)

  says_mpeg : (b : Bool) → same t text420mpeg2 ≡ b → same t text420 ≡ false → same t text420jpeg ≡ false → SaysSampling tags (sampling_said (code t))
  unfolding code
  says_mpeg true e e₁ e₂ =
      rw (e₁, e₂, e) (record { which = 3; known = omega arith; said = one ∙ ap (λ x. x ∷ []) (same_true t text420mpeg2 e) })
  says_mpeg false e e₁ e₂ = says_422 (same t text422) refl e₁ e₂ e

  says_jpeg : (b : Bool) → same t text420jpeg ≡ b → same t text420 ≡ false → SaysSampling tags (sampling_said (code t))
  unfolding code
  says_jpeg true e e₁ =
      rw (e₁, e) (record { which = 2; known = omega arith; said = one ∙ ap (λ x. x ∷ []) (same_true t text420jpeg e) })
  says_jpeg false e e₁ = says_mpeg (same t text420mpeg2) refl e₁ e

  says_420 : (b : Bool) → same t text420 ≡ b → SaysSampling tags (sampling_said (code t))
  unfolding code
  says_420 true e =
      rw e (record { which = 1; known = omega arith; said = one ∙ ap (λ x. x ∷ []) (same_true t text420 e) })
  says_420 false e = says_jpeg (same t text420jpeg) refl e

says_case : (tags ts : List (List ℕ)) → tagged 67 tags ≡ ts → 1 ≤ one_code ts → SaysSampling tags (sampling_said (one_code ts))
says_case tags [] e h = record { which = 0; known = omega arith; said = e }
says_case tags (t ∷ []) e h = says_420 tags t e h (same t text420) refl
says_case tags (t ∷ u ∷ ts) e h = absurd (omega arith)

-- ---- from the file to its bytes

module _ (f : Y4mFile) (a : Allowed f) where
  b : List ℕ
  b = file_bytes f

  header : header_of b ≡ text_of magic f.tags
  unfolding b file_bytes
  header = text_is magic f.tags magic_tag a.line _ (file_bytes f) refl

  rest : rest_of b ≡ pictures_bytes f.pictures
  unfolding b file_bytes
  rest = rest_is magic f.tags magic_tag a.line _ (file_bytes f) refl

  short : line_end b < 256
  unfolding b file_bytes
  short = end_short magic f.tags magic_tag a.line _ (file_bytes f) refl

  all_words : words (header_of b) ≡ magic ∷ f.tags
  all_words = rw header (words_text magic f.tags magic_tag.no_space a.line.each)

  width_is : width_in b ≡ f.width
  unfolding width_of tagged
  width_is = rw all_words (size_said 87 f.tags f.width a.width)

  height_is : height_in b ≡ f.height
  unfolding height_of tagged
  height_is = rw all_words (size_said 72 f.tags f.height a.height)

  code_is : sampling_of (header_of b) ≡ code_of f.sampling
  unfolding sampling_of tagged
  code_is = rw all_words (code_said f.tags f.sampling a.sampling)

  sampling_is : sampling_in b ≡ f.sampling
  sampling_is = rw code_is (code_back f.sampling)

  luma : ℕ
  luma = luma_bytes f.width f.height

  chroma : ℕ
  chroma = chroma_bytes f.sampling f.width f.height

  planes_are : planes_in b ≡ luma + 2 * chroma
  unfolding plane_bytes luma chroma
  planes_are = rw (width_is, height_is, sampling_is)

  count_is : pictures_in b ≡ length f.pictures
  unfolding pictures_in luma chroma
  count_is =
      let are = (pictures_are luma chroma f.pictures a.pictures).0 in
      rw (planes_are, rest) (count_of_lem (luma + 2 * chroma) (length f.pictures) (pictures_bytes f.pictures) are)

  is_header_lem : is_header (header_of b) ≡ true
  unfolding is_header
  is_header_lem =
      and_from (is_line magic (header_of b)) _ (ap (is_line magic) header ∙ text_line magic f.tags magic_tag a.line.each)
      (and_from (leb 1 (width_in b)) _ (rw width_is (le-leb 1 f.width a.width.least))
      (and_from (leb 1 (height_in b)) _ (rw height_is (le-leb 1 f.height a.height.least))
      (rw code_is (le-leb 1 (code_of f.sampling) (code_some f.sampling)))))

  pub file_checked : is_y4m (file_bytes f) ≡ true
  unfolding is_y4m b luma chroma
  file_checked =
      and_from (ltb (line_end b) 256) _ (lt-ltb (line_end b) 256 short)
      (and_from (is_header (header_of b)) _ is_header_lem
      (rw (count_is, planes_are, rest) (pictures_are luma chroma f.pictures a.pictures).0))

  pub file_read : file_in (file_bytes f) ≡ f
  unfolding file_in b luma chroma
  file_read = λ i. record { width = width_is i; height = height_is i; sampling = sampling_is i; tags = tags_are i; pictures = pictures_is i }
    where
      tags_are : tags_in (header_of b) ≡ f.tags
      tags_are = ap tags_in header ∙ tags_text magic f.tags magic_tag a.line.each

      pictures_is : pictures_from (luma_in b) (chroma_in b) (pictures_in b) (rest_of b) ≡ f.pictures
      pictures_is = rw (width_is, height_is, sampling_is, count_is, rest) (pictures_are luma chroma f.pictures a.pictures).1

-- ---- from bytes to the file

module _ (b : List ℕ) (e : is_y4m b ≡ true) where
  pub record Checked : Type 0 where
    pub short : line_end b < 256
    pub header : is_header (header_of b) ≡ true
    pub pictures : pictures (planes_in b) (pictures_in b) (rest_of b) ≡ true

  checked : Checked
  unfolding is_y4m
  checked =
      let p = and_parts (ltb (line_end b) 256) _ e in
      let q = and_parts (is_header (header_of b)) _ p.1 in
      record { short = ltb-true (line_end b) 256 p.0; header = q.0; pictures = q.1 }

module _ (l : List ℕ) (e : is_header l ≡ true) where
  first : is_line magic l ≡ true
  unfolding is_header
  first = (and_parts (is_line magic l) _ e).0

  sides : (1 ≤ width_of l) × ((1 ≤ height_of l) × (1 ≤ sampling_of l))
  unfolding is_header
  sides =
      let p = and_parts (leb 1 (width_of l)) _ (and_parts (is_line magic l) _ e).1 in
      let q = and_parts (leb 1 (height_of l)) _ p.1 in
      (leb-true 1 (width_of l) p.0, (leb-true 1 (height_of l) q.0, leb-true 1 (sampling_of l) q.1))

  width_tag : width_of l ≡ one_size (tagged 87 (tags_in l))
  unfolding width_of tagged
  width_tag = ap (λ ws. one_size (tagged 87 ws)) (words_are magic l first)

  height_tag : height_of l ≡ one_size (tagged 72 (tags_in l))
  unfolding height_of tagged
  height_tag = ap (λ ws. one_size (tagged 72 ws)) (words_are magic l first)

  code_tag : sampling_of l ≡ one_code (tagged 67 (tags_in l))
  unfolding sampling_of tagged
  code_tag = ap (λ ws. one_code (tagged 67 ws)) (words_are magic l first)

  says_width : SaysSide 87 (tags_in l) (width_of l)
  says_width = rw width_tag (says_side 87 (tags_in l) (rw (← width_tag) sides.0))

  says_height : SaysSide 72 (tags_in l) (height_of l)
  says_height = rw height_tag (says_side 72 (tags_in l) (rw (← height_tag) sides.1.0))

  says_sampling : SaysSampling (tags_in l) (sampling_said (sampling_of l))
  says_sampling = rw code_tag (says_case (tags_in l) (tagged 67 (tags_in l)) refl (rw (← code_tag) sides.1.1))

pub Checked-file : (b : List ℕ) → is_y4m b ≡ true → IsFileOf b (file_in b)
unfolding file_in file_bytes plane_bytes
Checked-file b e =
    let c = checked b e in
    let line = first (header_of b) c.header in
    let ps = pictures_split (luma_in b) (chroma_in b) (pictures_in b) (rest_of b) c.pictures in
    record {
      allowed = record {
        line = front_line b c.short magic line;
        width = says_width (header_of b) c.header;
        height = says_height (header_of b) c.header;
        sampling = says_sampling (header_of b) c.header;
        pictures = ps.0;
      };
      same = rw ps.1 (front_split b c.short magic line);
    }

-- ---- what this comes to

pub read_back : ReadBack
read_back f a = file_read f a

pub rewritten : Rewritten
rewritten b e = (Checked-file b e).same

-- the file of these bytes is the one that is read
pub its_file : (b : List ℕ) (f : Y4mFile) → IsFileOf b f → file_in b ≡ f
its_file b f i = rw (← i.same) (read_back f i.allowed)

pub one_file : OneFile
one_file b f g i j = sym (its_file b f i) ∙ its_file b g j

pub some_file : SomeFile
some_file b = (λ e. (file_in b, Checked-file b e), λ f. rw (← f.1.same) (file_checked f.0 f.1.allowed))
