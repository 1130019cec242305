-- What a reply that isn't a refusal says of a command.
use Rattle.std.proofs.Common.{◌≡◌, ◌≢◌, ℕ, ◌<◌, ◌≤◌, Bool, true, false, List, length, Option, Some, None, refl, arith}
use Rattle.std.specs.Prelude.{◌==◌, ◌||◌, nat_lt, nat_le, if◌then◌else◌, is_none}
use Rattle.std.proofs.lemmas.Bool.Decides.{nat_tests}
use Rattle.patch_model.specs.declared.refusals.Refusal.{Refusal}
use Rattle.patch_model.specs.Refusing.{bare}
use Rattle.patch_frame.specs.declared.geometries.Format.{Format}
use Rattle.patch_frame.specs.declared.geometries.Format.TheVariants.{One, Two}
use Rattle.patch_frame.specs.Geometry.{value_limit}
use Rattle.patch_frame.specs.Frame.{Fits}
use Rattle.patch_recovery.specs.Change.{Made}
use Rattle.patch_recovery.specs.Ledger.{value_in}
use Rattle.patch_plans.specs.Extents.{offset_at, generation_at}
use Rattle.patch_history.specs.Choosing.{slot_for}
use Rattle.patch_history.specs.Command.{Reply, Put, Delete, Reclaim, unless, is_refused}
use Rattle.patch_history.specs.Refusing.{why_no_key, why_not_made, why_not_put, why_not_deleted, why_not_reclaimed}
use Rattle.patch_history.specs.Refusing.{why_not_upgraded, is_in_use, is_wide}
use Rattle.std.specs.Option.{option_or}
use Rattle.patch_history.specs.StoreState.{Standing, plan_for}
use Rattle.patch_model.specs.declared.refusals.RefusalKind.TheVariants as kind

pub no_cause : (why : Option Refusal) (reply : Reply) → is_refused (unless why reply) ≡ false → why ≡ None
no_cause None reply h = refl
no_cause (Some cause) reply h = absurd (let g : true ≡ false = h in cc)

or_none : (a b : Option Refusal) → option_or a b ≡ None → (a ≡ None) × (b ≡ None)
or_none None b h = (refl, h)
or_none (Some cause) b h = absurd (let g : Some cause ≡ None = h in cc)

-- a test that would refuse doesn't hold
passes : (test : Bool) (cause : Refusal) (rest : Option Refusal) → (if test then Some cause else rest) ≡ None
    → (test ≡ false) × (rest ≡ None)
passes true cause rest h = absurd (let g : Some cause ≡ None = h in cc)
passes false cause rest h = (refl, h)

planned : (st : Standing) (no_plan : Refusal) (o : Option (List Made)) → why_not_made st no_plan o ≡ None
    → (plan : List Made) × (o ≡ Some plan)
planned st no_plan None h = absurd (let g : Some no_plan ≡ None = h in cc)
planned st no_plan (Some plan) h = (plan, refl)

key_fits : (key : List ℕ) → why_no_key key ≡ None → (0 < length key) × (length key ≤ 32)
key_fits key h =
    let test = (passes (length key == 0 || nat_lt 32 (length key)) (bare kind.KeyLength) None h).0 in
    let some : 0 < length key = grind (arith, nat_tests) in
    let short : length key ≤ 32 = grind (arith, nat_tests) in
    (some, short)

pub put_done : (st : Standing) (key value : List ℕ) → why_not_put st key value ≡ None
    → Fits (value_limit st.map.format) (record { key = key; value = value }) × ((plan : List Made) × (plan_for st (Put key value) ≡ Some plan))
put_done st key value h =
    let two = or_none (why_no_key key) _ h in
    let keys = key_fits key two.0 in
    let a = passes (nat_lt (value_limit st.map.format) (length value)) (bare kind.ValueLength) _ two.1 in
    let long = a.0 in
    let b = passes (is_none (slot_for st.shelf key)) (bare kind.IndexFull) _ a.1 in
    let short : length value ≤ value_limit st.map.format = grind (arith, nat_tests) in
    (record { some_key = keys.0; short_key = keys.1; short_value = short }, planned st (bare kind.NoSpace) (plan_for st (Put key value)) b.1)

pub delete_done : (st : Standing) (key : List ℕ) → why_not_deleted st key ≡ None
    → (plan : List Made) × (plan_for st (Delete key) ≡ Some plan)
delete_done st key h =
    let two = or_none (why_no_key key) _ h in
    let a = passes (is_none (value_in st.map.entries key)) (bare kind.NoKey) _ two.1 in
    planned st (bare kind.NoKey) (plan_for st (Delete key)) a.1

pub record IsReclaimed (st : Standing) (extent : ℕ) : Type 0 where
  pub known : extent < st.shelf.extents.geometry.extents
  pub filled : offset_at st.shelf.extents extent ≢ 0
  pub not_open : is_in_use st.shelf extent ≡ false
  pub generation : generation_at st.shelf.extents extent ≢ 4294967295
  pub plan : List Made
  pub is : plan_for st (Reclaim extent) ≡ Some plan

pub reclaim_done : (st : Standing) (extent : ℕ) → why_not_reclaimed st extent ≡ None → IsReclaimed st extent
reclaim_done st extent h =
    let a = passes (nat_le st.shelf.extents.geometry.extents extent) (bare kind.NoSuchExtent) _ h in
    let b = passes (offset_at st.shelf.extents extent == 0) (bare kind.EmptyExtent) _ a.1 in
    let c = passes (is_in_use st.shelf extent) (bare kind.OpenExtent) _ b.1 in
    let d = passes (generation_at st.shelf.extents extent == 4294967295) (bare kind.GenerationSpent) _ c.1 in
    let p = planned st (bare kind.NoSpace) (plan_for st (Reclaim extent)) d.1 in
    let ta = a.0 in
    let tb = b.0 in
    let td = d.0 in
    let known : extent < st.shelf.extents.geometry.extents = grind (arith, nat_tests) in
    let filled : offset_at st.shelf.extents extent ≢ 0 = grind (arith, nat_tests) in
    let generation : generation_at st.shelf.extents extent ≢ 4294967295 = grind (arith, nat_tests) in
    record { known = known; filled = filled; not_open = c.0; generation = generation; plan = p.0; is = p.1 }

narrow : (f : Format) → is_wide f ≡ false → f ≡ One
narrow One h = refl
narrow (Two n) h = absurd (let g : true ≡ false = h in cc)

pub upgrade_done : (st : Standing) → why_not_upgraded st ≡ None → st.map.format ≡ One
upgrade_done st h = narrow st.map.format (passes (is_wide st.map.format) (bare kind.AlreadyVersion2) _ h).0
