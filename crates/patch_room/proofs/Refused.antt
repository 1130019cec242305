-- Why a put and a reclaim are refused.
use Rattle.std.proofs.Common.{◌≡◌, ◌≢◌, ℕ, ◌+◌, ◌≤◌, ◌⊎◌, ◌∙◌, inl, inr, Bool, true, false, List, [], ◌∷◌, length}
use Rattle.std.proofs.Common.{Option, Some, None, refl, sym, ap, arith, subst}
use Rattle.std.specs.Prelude.{◌==◌, ◌||◌, nat_lt, is_none, option_map, if◌then◌else◌}
use Rattle.std.specs.Option.{option_or}
use Rattle.std.proofs.lemmas.Bool.{cases_Bool}
use Rattle.std.proofs.lemmas.Bool.Decides.{nat_tests}
use Rattle.patch_model.specs.Step.{Step}
use Rattle.patch_model.specs.declared.limits.TheConstants.{MAX_PATCHES, MAX_LIVE}
use Rattle.patch_model.specs.declared.refusals.RefusalKind.TheVariants as kind
use Rattle.patch_model.specs.declared.refusals.Refusal.{Refusal}
use Rattle.patch_model.specs.Refusing.{bare}
use Rattle.patch_frame.specs.declared.framing.TheConstants.{MAX_KEY}
use Rattle.patch_frame.specs.Frame.{Content, Fits, length_of}
use Rattle.patch_frame.specs.Geometry.{value_limit}
use Rattle.patch_recovery.specs.Change.{Made}
use Rattle.patch_plans.specs.Room.{why_no_room}
use Rattle.patch_history.specs.Choosing.{slot_for, empty_extents, extent_for_put}
use Rattle.patch_history.specs.Command.{Put, Reclaim, Done, Refused, unless}
use Rattle.patch_history.specs.History.{History, Call, IsLegalHistory, IsRight, standing_of}
use Rattle.patch_history.specs.Planning.{frame_plan, put_plan}
use Rattle.patch_history.specs.Refusing.{why_no_key, why_not_made, why_not_put, why_not_reclaimed, reply_of}
use Rattle.patch_history.specs.StoreState.{Standing, made_by, live_of, plan_for}
use Rattle.patch_room.specs.Laws.{shelf_in}
use Rattle.patch_room.specs.LawsBelow.{Given}
use Rattle.patch_room.specs.Room.{extent_bytes, live_in, MayBeWon}
use Rattle.patch_room.proofs.Winning.{can_be_won, why_is}

pub refused_for : (o : Option Refusal) (cause : Refusal) → Refused cause ≡ unless o Done → o ≡ Some cause
refused_for None cause h = absurd (let no : Refused cause ≡ Done = h in cc)
refused_for (Some why) cause h = (let g : Refused cause ≡ Refused why = h in cc)

-- a test that is the cause, or is passed
pub judged : (b : Bool) (x cause : Refusal) (o : Option Refusal) → x ≢ cause → (if b then Some x else o) ≡ Some cause
    → (b ≡ false) × (o ≡ Some cause)
judged true x cause o ne h = absurd (ne (let g : Some x ≡ Some cause = h in cc))
judged false x cause o ne h = (refl, h)

-- the causes of why_no_room
no_room : (made live count : ℕ) (cause : Refusal) → why_no_room made live count ≡ Some cause
    → (cause ≡ bare kind.NumbersSpent) ⊎ (cause ≡ bare kind.TooManyLive)
no_room made live count cause h = elim (cases_Bool (nat_lt MAX_PATCHES (made + count))) [
  | inl t ↦ inl (let g : Some (bare kind.NumbersSpent) ≡ Some cause = rw t at h in cc)
  | inr t ↦ elim (cases_Bool (nat_lt MAX_LIVE (live + count))) [
    | inl u ↦ inr (let g : Some (bare kind.TooManyLive) ≡ Some cause = rw (t, u) at h in cc)
    | inr u ↦ absurd (let g : None ≡ Some cause = rw (t, u) at h in cc)
  ]
]

not_numbers : bare kind.NumbersSpent ≢ bare kind.NoSpace
not_numbers h = let no : kind.NumbersSpent ≡ kind.NoSpace = ap (λ (r : Refusal). r.kind) h in cc

not_live : bare kind.TooManyLive ≢ bare kind.NoSpace
not_live h = let no : kind.TooManyLive ≡ kind.NoSpace = ap (λ (r : Refusal). r.kind) h in cc

not_key : bare kind.KeyLength ≢ bare kind.NoSpace
not_key h = let no : kind.KeyLength ≡ kind.NoSpace = ap (λ (r : Refusal). r.kind) h in cc

pub not_value : bare kind.ValueLength ≢ bare kind.NoSpace
not_value h = let no : kind.ValueLength ≡ kind.NoSpace = ap (λ (r : Refusal). r.kind) h in cc

pub not_index : bare kind.IndexFull ≢ bare kind.NoSpace
not_index h = let no : kind.IndexFull ≡ kind.NoSpace = ap (λ (r : Refusal). r.kind) h in cc

pub not_memory : bare kind.NoSpace ≢ bare kind.OutOfMemory
not_memory h = let no : kind.NoSpace ≡ kind.OutOfMemory = ap (λ (r : Refusal). r.kind) h in cc

no_plan : (st : Standing) (o : Option (List Made)) → why_not_made st (bare kind.NoSpace) o ≡ Some (bare kind.NoSpace) → o ≡ None
no_plan st None h = refl
no_plan st (Some p) h = elim (no_room (made_by st) (live_of st) (length p) (bare kind.NoSpace) h) [
  | inl e ↦ absurd (not_numbers (sym e))
  | inr e ↦ absurd (not_live (sym e))
]

-- A put that finds no extent: its frame would fit one.

pub record FindsNone (h : History) (len : ℕ) : Type 0 where
  pub none : extent_for_put (shelf_in h) len ≡ None
  pub fits : len ≤ extent_bytes (shelf_in h)

unmapped : {X Y : Type 0} (f : X → Y) (o : Option X) → option_map f o ≡ None → o ≡ None
unmapped f None h = refl
unmapped f (Some x) h = absurd (let no : Some (f x) ≡ None = h in cc)

-- a key that is one
pub keyed : (key : List ℕ) (o : Option Refusal) → option_or (why_no_key key) o ≡ Some (bare kind.NoSpace)
    → ((length key == 0 || nat_lt MAX_KEY (length key)) ≡ false) × (o ≡ Some (bare kind.NoSpace))
keyed key o h = elim (cases_Bool (length key == 0 || nat_lt MAX_KEY (length key))) [
  | inl t ↦ absurd (not_key (let no : Some (bare kind.KeyLength) ≡ Some (bare kind.NoSpace) = rw t at h in cc))
  | inr t ↦ (t, (rw t at h))
]

no_extent : (st : Standing) (n : ℕ) (c : Content) (o : Option ℕ) → slot_for st.shelf c.key ≡ o → is_none (slot_for st.shelf c.key) ≡ false
    → put_plan st.shelf n c ≡ None → extent_for_put st.shelf (length_of c) ≡ None
no_extent st n c None at some h = absurd (let no : true ≡ false = rw at at some in cc)
no_extent st n c (Some slot) at some h =
    let g : option_map (λ extent. frame_plan st.shelf n extent slot c) (extent_for_put st.shelf (length_of c)) ≡ None = rw (at, put_plan) at h in
    unmapped (λ extent. frame_plan st.shelf n extent slot c) (extent_for_put st.shelf (length_of c)) g

pub finds_none : (given : Given) (h : History) (writer : ℕ) (key value : List ℕ) → IsLegalHistory h
    → Refused (bare kind.NoSpace) ≡ reply_of (standing_of h) writer (Put key value)
    → FindsNone h (length_of (record { key = key; value = value }))
finds_none given h writer key value legal is =
    let st = standing_of h in
    let s = st.shelf in
    let c : Content = record { key = key; value = value } in
    let why : why_not_put st key value ≡ Some (bare kind.NoSpace) = refused_for (why_not_put st key value) (bare kind.NoSpace) is in
    let key_test = keyed key _ why in
    let value_test = judged (nat_lt (value_limit st.map.format) (length value)) (bare kind.ValueLength) (bare kind.NoSpace) _ not_value key_test.1 in
    let slot_test = judged (is_none (slot_for s key)) (bare kind.IndexFull) (bare kind.NoSpace) _ not_index value_test.1 in
    let plan = no_plan st (plan_for st (Put key value)) slot_test.1 in
    let whole = (given.extents h legal).whole in
    let format : st.map.format ≡ s.extents.geometry.format =
    (given.agree h legal).format ∙ ap (λ g. g.format) (sym (given.kept h).geometry) in
    let key_length = key_test.0 in
    let value_length = value_test.0 in
    let fit : Fits (value_limit st.map.format) c = record {
      some_key = grind (arith, nat_tests);
      short_key = grind (arith, nat_tests);
      short_value = grind (arith, nat_tests);
    } in record {
      none = no_extent st (made_by st) c (slot_for s key) refl slot_test.0 plan;
      fits = given.fit s.extents.geometry.format c whole.geometry.format (subst (λ f. Fits (value_limit f) c) format fit);
    }

-- A reclaim of an extent that may be won back is refused for want of room, of numbers or of memory; for want of room
-- only where no extent is empty.

abbrev pub IsWantOfRoom : Refusal → Type 0
IsWantOfRoom cause =
    (cause ≡ bare kind.NoSpace) ⊎ (cause ≡ bare kind.NumbersSpent) ⊎ (cause ≡ bare kind.TooManyLive) ⊎ (cause ≡ bare kind.OutOfMemory)

pub made_for : (st : Standing) (o : Option (List Made)) (cause : Refusal) → why_not_made st (bare kind.NoSpace) o ≡ Some cause → IsWantOfRoom cause
made_for st None cause h = inl (let g : Some (bare kind.NoSpace) ≡ Some cause = h in cc)
made_for st (Some p) cause h = elim (no_room (made_by st) (live_of st) (length p) cause h) [
  | inl e ↦ inr (inl e)
  | inr e ↦ inr (inr (inl e))
]

pub reclaim_wants : (given : Given) (h : History) (writer e : ℕ) (cause : Refusal) (steps : List Step) → IsLegalHistory h
    → MayBeWon (shelf_in h) e → IsRight (standing_of h) (Call writer (Reclaim e) (Refused cause) steps) → IsWantOfRoom cause
reclaim_wants given h writer e cause steps legal won (inl answered) =
    made_for (standing_of h) (plan_for (standing_of h) (Reclaim e)) cause
    (sym (why_is given h legal e won) ∙ refused_for (why_not_reclaimed (standing_of h) e) cause answered.0)
reclaim_wants given h writer e cause steps legal won (inr up) =
    inr (inr (inr (let g : Refused cause ≡ Refused (bare kind.OutOfMemory) = up.reply_is in cc)))

nothing : (xs : List ℕ) → (xs ≢ [] → ⊥) → xs ≡ []
nothing [] h = refl
nothing (x ∷ xs) h = absurd (h (λ none. let no : x ∷ xs ≡ [] = none in cc))

pub none_empty : (given : Given) (h : History) (writer e : ℕ) (steps : List Step) → IsLegalHistory h
    → MayBeWon (shelf_in h) e → live_in (shelf_in h) e ≤ extent_bytes (shelf_in h)
    → IsRight (standing_of h) (Call writer (Reclaim e) (Refused (bare kind.NoSpace)) steps) → empty_extents (shelf_in h) ≡ []
none_empty given h writer e steps legal won fits (inl answered) = nothing (empty_extents (shelf_in h)) (λ has.
    let can = can_be_won given h legal e won has fits in
    elim (no_room (made_by (standing_of h)) (live_of (standing_of h)) _ (bare kind.NoSpace)
    (sym can.why ∙ refused_for (why_not_reclaimed (standing_of h) e) (bare kind.NoSpace) answered.0)) [
      | inl e ↦ not_numbers (sym e)
      | inr e ↦ not_live (sym e)
    ])
none_empty given h writer e steps legal won fits (inr up) =
    absurd (not_memory (let g : Refused (bare kind.NoSpace) ≡ Refused (bare kind.OutOfMemory) = up.reply_is in cc))
