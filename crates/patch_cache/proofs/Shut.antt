-- Blocks of which a write can begin, and those of which none can.
use Rattle.std.proofs.Common.{◌≡◌, ◌≢◌, ℕ, ◌<◌, ◌≤◌, ◌∙◌, true, false, List, [], ◌∷◌, Option, Some, None, inl, inr, length, refl, sym, ap, subst, arith}
use Rattle.std.specs.Prelude.{◌==◌, ◌&&◌, IsTrue, IsSome, Contains}
use Rattle.std.specs.List.{list_any}
use Rattle.std.proofs.lemmas.Bool.{cases_Bool, cases_lt, and_parts, both_ways, eqb-true, false_from_ne_true}
use Rattle.patch_model.specs.Dependency.{Path}
use Rattle.patch_model.specs.Entry.{Entry, is_memory, is_flight}
use Rattle.patch_model.specs.Execution.{Execution}
use Rattle.patch_model.specs.Legal.{IsLegal}
use Rattle.patch_model.specs.Member.{In, Contains-from_In, list_any-at}
use Rattle.patch_model.specs.Ready.{ready, IsLargestWritable}
use Rattle.patch_model.specs.Refusing.{why_not_sent}
use Rattle.patch_model.specs.State.{state_of, entries_of, has_flight}
use Rattle.patch_graph.specs.State.{Graph}
use Rattle.patch_graph.specs.Meaning.{IsGraphOf}
use Rattle.patch_graph.specs.Ready.{IsOpen, IsShut, IsNextOpen, TellsNextOpen}
use Rattle.patch_cache.specs.Flights.{IsLeastReady}
use Rattle.patch_cache.proofs.Refusing.{already, nothing, something}

abbrev pub KnownLaw : Type 0
KnownLaw = (run : Execution) (e : Entry) → IsLegal run → Contains (entries_of run) e → e.patch.block < length run.first

abbrev pub FlyingLaw : Type 0
FlyingLaw = (run : Execution) (e : Entry) → IsLegal run → Contains (entries_of run) e → IsTrue (is_flight e) → IsTrue (has_flight (state_of run) e.patch.block)

abbrev pub HoldsLaw : Type 0
HoldsLaw = (run : Execution) (block : ℕ) → IsLegal run → IsTrue (has_flight (state_of run) block) → IsTrue (list_any (λ e. is_flight e && e.patch.block == block) (entries_of run))

abbrev pub RingLaw : Type 0
RingLaw = (run : Execution) (a b : ℕ) → IsLegal run → Path (entries_of run) a b → Path (entries_of run) b a → ⊥

-- what the graph tells is so of the execution
pub told : RingLaw → (run : Execution) (g : Graph) (from : ℕ) (found : Option ℕ) → IsLegal run → IsGraphOf g (entries_of run) → TellsNextOpen g from found → IsNextOpen (entries_of run) from found
told ring run g from found legal is tells = tells (entries_of run) is (λ x y apart to back. ring run x y legal to back)

-- of a block that is shut no write can begin
pub none_of : FlyingLaw → (run : Execution) (b : ℕ) → IsLegal run → IsShut (entries_of run) b → b < length run.first → why_not_sent run b ≡ None → ⊥
none_of flying run b legal (inl none) known may = elim (cases_Bool (has_flight (state_of run) b)) [
  | inl flies ↦ absurd (let e = sym (already run b known flies) ∙ may in cc)
  | inr still ↦ absurd (let e = sym (nothing run b known still (λ some. some none)) ∙ may in cc)
]
none_of flying run b legal (inr (e, inside, here, flies)) known may =
    let there : has_flight (state_of run) b ≡ true = ap (has_flight (state_of run)) (sym here) ∙ flying run e legal (Contains-from_In (entries_of run) e inside) flies in
    absurd (let e = sym (already run b known there) ∙ may in cc)

-- and so of none from one number up to another, if these are shut
pub none_between : FlyingLaw → (run : Execution) (from b : ℕ) → IsLegal run → ((n : ℕ) → why_not_sent run n ≡ None → n < length run.first)
    → ((n : ℕ) → n < from → why_not_sent run n ≡ None → ⊥) → (from ≤ b → IsShut (entries_of run) b) → why_not_sent run b ≡ None → ⊥
none_between flying run from b legal known before shut may = elim (cases_lt b from) [
  | inl under ↦ before b under may
  | inr over ↦ none_of flying run b legal (shut over) (known b may) may
]

first_of : (set : List Entry) → set ≢ [] → (e : Entry) × In set e
first_of [] some = absurd (some refl)
first_of (e ∷ es) some = (e, inl refl)

-- of one that is open a write can begin
can_begin : KnownLaw → HoldsLaw → (run : Execution) (b : ℕ) → IsLegal run → IsLargestWritable (entries_of run) b (ready (entries_of run) b) → IsOpen (entries_of run) b → why_not_sent run b ≡ None
can_begin placed holds run b legal big is =
    let first = first_of (ready (entries_of run) b) is.some in
    let m = big.writable.in_memory first.0 (Contains-from_In (ready (entries_of run) b) first.0 first.1) in
    let parts = and_parts (is_memory first.0) (first.0.patch.block == b) m.1 in
    let known : b < length run.first = subst (λ n. n < length run.first) (eqb-true first.0.patch.block b parts.1) (placed run first.0 legal m.0) in
    let still : has_flight (state_of run) b ≡ false = false_from_ne_true _ (λ flies.
    let e = list_any-at (λ e. is_flight e && e.patch.block == b) (entries_of run) (holds run b legal flies) in
    let both = and_parts (is_flight e.0) (e.0.patch.block == b) e.2 in
    both_ways _ (is.still e.0 e.1 (eqb-true e.0.patch.block b both.1)) both.0) in
    something run b known still is.some

pub least_is_ready : KnownLaw → FlyingLaw → HoldsLaw → (run : Execution) (found : Option ℕ) → IsLegal run → ((n : ℕ) → IsLargestWritable (entries_of run) n (ready (entries_of run) n))
    → ((n : ℕ) → why_not_sent run n ≡ None → n < length run.first) → IsNextOpen (entries_of run) 0 found → IsLeastReady run found
least_is_ready placed flying holds run None legal big known none = λ b may.
    none_of flying run b legal (none b (omega arith) (let here = known b may in let few = legal.few in omega arith)) (known b may) may
least_is_ready placed flying holds run (Some least) legal big known (above, low, is, none) = (
  can_begin placed holds run least legal (big least) is,
  λ b may. elim (cases_lt b least) [ inl under ↦ absurd (none_of flying run b legal (none b (omega arith) under) (known b may) may) | inr over ↦ over ],
)

-- where a write of some block can begin, one is found
pub some_is_found : (run : Execution) (b : ℕ) (found : Option ℕ) → IsLeastReady run found → why_not_sent run b ≡ None → IsSome found
some_is_found run b None none may = absurd (none b may)
some_is_found run b (Some least) is may = refl
