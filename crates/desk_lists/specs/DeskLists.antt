-- Lists of the desk's calls after a fresh beginning, and the claim that no camera waits long. docs/RULES.md, 16.5.
-- Assumes nothing.
use Rattle.std.specs.Prelude.{ℕ, ◌+◌, ◌≡◌, Bool, true, false, ◌||◌, List, [], ◌∷◌, ◌++◌, eqb, Option, None, Some}
use Rattle.desk_places.specs.Places.{is_waiting}
use Rattle.desk.specs.declared.Desk.{Desk}
use Rattle.desk.specs.declared.Served.{Served}
use Rattle.desk.specs.DeskCall.{fresh, slot_at, OpenCall, OpenPost, OfferCall, OfferPost, StepCall, StepPost}

-- RULES 16.5: a call of the desk; beside an offer, which is told a length, stands the source buffer as it then was
pub data DeskCall : Type 0 where
  opening : OpenCall → DeskCall
  offering : OfferCall → (source : List ℕ) → DeskCall
  step : StepCall → DeskCall

-- RULES 16.5 speaks of what calls leave, so the claims are about calls that kept their promise: the very predicates of the `ensures` of `Desk::open`,
-- `Desk::offer` and `Desk::step`
abbrev pub Met : DeskCall → Type 0
Met (opening k) = OpenPost k
Met (offering k source) = OfferPost k
Met (step k) = StepPost k

-- RULES 16.5
abbrev pub AllMet : List DeskCall → Type 0
AllMet [] = Unit {0}
AllMet (k ∷ ks) = Met k × AllMet ks

-- RULES 16.5: the desk that a call was given
abbrev pub given : DeskCall → Desk
given (opening k) = k.desk
given (offering k source) = k.desk
given (step k) = k.desk

-- RULES 16.5: and the one that it handed back
abbrev pub handed_back : DeskCall → Desk
handed_back (opening k) = k.result.desk
handed_back (offering k source) = k.result.desk
handed_back (step k) = k.result.desk

-- RULES 16.5: every call gets the desk as the call before left it, the first gets d
abbrev pub HandedOn : Desk → List DeskCall → Type 0
HandedOn d [] = Unit {0}
HandedOn d (k ∷ ks) = (given k ≡ d) × HandedOn (handed_back k) ks

-- RULES 16.5
abbrev pub desk_after : Desk → List DeskCall → Desk
desk_after d [] = d
desk_after d (k ∷ ks) = desk_after (handed_back k) ks

-- RULES 16.5: how many of the calls are steps
abbrev pub steps_in : List DeskCall → ℕ
steps_in [] = 0
steps_in (opening k ∷ ks) = steps_in ks
steps_in (offering k source ∷ ks) = steps_in ks
steps_in (step k ∷ ks) = steps_in ks + 1

-- RULES 16.4: whether a step told that it served camera c
abbrev pub tells : ℕ → Option Served → Bool
tells c None = false
tells c (Some s) = eqb s.camera c

-- RULES 16.5: whether one of the steps did
abbrev pub served_in : ℕ → List DeskCall → Bool
served_in c [] = false
served_in c (opening k ∷ ks) = served_in c ks
served_in c (offering k source ∷ ks) = served_in c ks
served_in c (step k ∷ ks) = tells c k.result.served || served_in c ks

-- RULES 16.5: a waiting camera is served within 32 steps, whatever the others offer: after some calls it waits, the calls that follow have 32 steps,
-- and one of these served it
abbrev pub Fairness : Type 0
Fairness =
    (c : ℕ) (before after : List DeskCall) → AllMet (before ++ after) → HandedOn fresh (before ++ after)
    → is_waiting (slot_at (desk_after fresh before) c) ≡ true → steps_in after ≡ 32 → served_in c after ≡ true
