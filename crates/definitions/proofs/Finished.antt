-- Which chroma rows are finished by so many rows: never fewer than before, never more than there are, and each from rows that are then done.
-- Assumes nothing.
use Prim.Native.Nat.{ℕ, ◌+◌, ◌*◌, ◌-◌, ◌/◌, ◌≤◌, ◌<◌, min}
use mathlib.Core.Path.{◌≡◌, refl, ap}
use mathlib.Core.Bool.{Bool, cond}
use native.Mathlib.Omega.{arith}
use borrow.Author.Tests.{eq-eqb, ne_eqb}
use Rattle.yuv_support.specs.declared.YuvChromaSubsampling.{YuvChromaSubsampling}
use Rattle.yuv_support.specs.declared.YuvChromaSubsampling.TheVariants.{Yuv420, Yuv422}
use Rattle.yuv_support.specs.Sampling.{chroma_height}
use Rattle.definitions.specs.declared.FrameDescription.{FrameDescription}
use Rattle.definitions.specs.Image.{finished_by, finished_of, chroma_rows}
use Rattle.definitions.proofs.Planes.{below?}

pub finished_all : (h n : ℕ) → n ≡ h → finished_by Yuv420 h n ≡ (h + 1) / 2
finished_all h n e = ap (λ (b : Bool). cond b ((h + 1) / 2) (n / 2)) (eq-eqb n h e)

pub finished_some : (h n : ℕ) → (n ≡ h → ⊥) → finished_by Yuv420 h n ≡ n / 2
finished_some h n e = ap (λ (b : Bool). cond b ((h + 1) / 2) (n / 2)) (ne_eqb n h e)

-- by whether all rows are done
pub finished? : {P : Type 0} (h n : ℕ) → n ≤ h → (n ≡ h → finished_by Yuv420 h n ≡ (h + 1) / 2 → P) → (n < h → finished_by Yuv420 h n ≡ n / 2 → P) → P
finished? h n l f g = below? n h (λ m. g m (finished_some h n (λ e. omega arith))) (λ m. let e : n ≡ h = omega arith in f e (finished_all h n e))

rise : (s : YuvChromaSubsampling) (h m n : ℕ) → m ≤ n → n ≤ h → finished_by s h m ≤ finished_by s h n
rise Yuv420 h m n l k =
    finished? h n k
    (λ e a. finished? h m (omega arith) (λ f b. omega arith) (λ f b. omega arith))
    (λ e a. finished? h m (omega arith) (λ f b. omega arith) (λ f b. omega arith))
rise Yuv422 h m n l k = l

most : (s : YuvChromaSubsampling) (h n : ℕ) → n ≤ h → finished_by s h n ≤ chroma_height s h
most Yuv420 h n l = finished? h n l (λ e a. omega arith) (λ e a. omega arith)
most Yuv422 h n l = l

none : (s : YuvChromaSubsampling) (h : ℕ) → 1 ≤ h → finished_by s h 0 ≡ 0
none Yuv420 h some = finished_some h 0 (λ e. omega arith)
none Yuv422 h some = refl

last : (s : YuvChromaSubsampling) (h : ℕ) → finished_by s h h ≡ chroma_height s h
last Yuv420 h = finished_all h h refl
last Yuv422 h = refl

pub finished_rise : (d : FrameDescription) {m n : ℕ} → m ≤ n → n ≤ d.height → finished_of d m ≤ finished_of d n
finished_rise d {m} {n} = rise d.settings.sampling d.height m n

pub finished_most : (d : FrameDescription) {n : ℕ} → n ≤ d.height → finished_of d n ≤ chroma_rows d
finished_most d {n} = most d.settings.sampling d.height n

-- no row, no chroma row
pub finished_none : (d : FrameDescription) → 1 ≤ d.height → finished_of d 0 ≡ 0
finished_none d = none d.settings.sampling d.height

pub finished_last : (d : FrameDescription) → finished_of d d.height ≡ chroma_rows d
finished_last d = last d.settings.sampling d.height

-- chroma row k by its rows, in either sampling: the row it starts from and the row below that. 4:2:2 takes one row, which both stand for.
abbrev pub first_row : YuvChromaSubsampling → (k : ℕ) → ℕ
first_row Yuv420 k = 2 * k
first_row Yuv422 k = k

abbrev pub below_row : YuvChromaSubsampling → (h k : ℕ) → ℕ
below_row Yuv420 h k = min (2 * k + 1) (h - 1)
below_row Yuv422 h k = k

-- the rows of chroma row k lie below `end`, and the row below its first is not one of the first `done`
pub record Between (s : YuvChromaSubsampling) (h done end k : ℕ) : Type 0 where
  pub first : first_row s k < end
  pub below_least : done ≤ below_row s h k
  pub below_most : below_row s h k < end

-- the rows of a chroma row that a band finishes
pub between : (s : YuvChromaSubsampling) (h done end k : ℕ) → done < end → end ≤ h → finished_by s h done ≤ k → k < finished_by s h end → Between s h done end k
between Yuv420 h done end k l m a b =
    finished? h end m
    (λ e x. finished? h done (omega arith) (λ f y. absurd (omega arith))
    (λ f y. record { first = omega arith; below_least = omega arith; below_most = omega arith }))
    (λ e x. finished? h done (omega arith) (λ f y. absurd (omega arith))
    (λ f y. record { first = omega arith; below_least = omega arith; below_most = omega arith }))
between Yuv422 h done end k l m a b = record { first = b; below_least = a; below_most = b }
