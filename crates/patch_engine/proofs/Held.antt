-- The writes that an engine holds, by their blocks and numbers.
use Rattle.std.proofs.Common.{◌≡◌, ℕ, ◌<◌, ◌≤◌, ◌∙◌, Bool, true, false, inl, inr, List, [], ◌∷◌, Some, None, length, refl, sym, ap, subst, arith}
use Rattle.std.specs.Prelude.{◌==◌, ◌&&◌, not, cond, nat_lt, filter, slice_get, IsTrue, Contains, count_by}
use Rattle.std.specs.List.{list_any, position, position_or_len}
use Rattle.std.proofs.Math.ListN.{get_or}
use Rattle.std.proofs.lemmas.Bool.{cases_Bool, and_parts, and_from}
use Rattle.std.proofs.lemmas.Bool.Decides.{nat_tests}
use Rattle.std.proofs.lemmas.List.Sums.{fails_before_first, length-filter}
use Rattle.std.proofs.lemmas.List.Quantifiers.{position-Some}
use Rattle.std.proofs.lemmas.Option.{none-some, slice_get-get_or, slice_get_within, get_or_from_slice_get}
use Rattle.patch_model.specs.Execution.{Execution}
use Rattle.patch_model.specs.declared.patches.Mark.{Mark}
use Rattle.patch_model.specs.declared.patches.Mark.TheVariants.{Memory, Flight as Flies, Durable}
use Rattle.patch_model.specs.Entry.{Entry, is_flight, is_live, marks_flight, marks_durable}
use Rattle.patch_model.specs.Legal.{IsLegal}
use Rattle.patch_model.specs.Member.{In, In-from_Contains, In-filter, list_any-from, list_any-at}
use Rattle.patch_model.specs.State.{state_of, entries_of, has_flight}
use Rattle.patch_cache.specs.Flights.{IsFlightOf, AreFlightsOf}
use Rattle.patch_cache.specs.declared.flights.Flight.{Flight}
use Rattle.patch_cache.specs.declared.flights.Landed.{Landed}
use Rattle.patch_cache.proofs.HeldFlights.{get_in, in_get, held_flies}
use Rattle.patch_engine.specs.Meaning.{IsOut, IsNotOut, is_numbered}

is_same : (a b : ℕ) → (a == b) ≡ true → a ≡ b
is_same a b e = grind (arith, nat_tests)

same_number : (a b : ℕ) → a ≡ b → (a == b) ≡ true
same_number a b e = grind (arith, nat_tests)

-- what stands at the place that was found has the block and the number
pub stands_at : {A : Type 0} (held : List (Flight A)) (block number at : ℕ) (flight : Flight A) → position (is_numbered block number) held ≡ Some at → get_or held at flight ≡ flight
    → (slice_get held at ≡ Some flight) × (flight.block ≡ block) × (flight.sequence ≡ number)
stands_at held block number at flight e is =
    let r = position-Some (is_numbered block number) held at flight e in
    let t : is_numbered block number flight ≡ true = subst (λ f. is_numbered block number f ≡ true) is r.1 in
    let both = and_parts (flight.block == block) (flight.sequence == number) t in
    (slice_get-get_or held at flight r.0 ∙ ap Some is, is_same flight.block block both.0, is_same flight.sequence number both.1)

-- and the place is one of the list
pub place_within : {A : Type 0} (held : List (Flight A)) (block number at : ℕ) (flight : Flight A) → position (is_numbered block number) held ≡ Some at → at < length held
place_within held block number at flight e = (position-Some (is_numbered block number) held at flight e).0

-- so the write of this block and number is out
pub is_out : {A : Type 0} (run : Execution) (held : List (Flight A)) (block number at : ℕ) (flight : Flight A) → AreFlightsOf run held → position (is_numbered block number) held ≡ Some at
    → get_or held at flight ≡ flight → IsOut run block number × IsFlightOf run flight × (flight.block ≡ block)
is_out run held block number at flight are e is =
    let s = stands_at held block number at flight e is in
    let f = are.each flight (get_in held flight at s.0) in
    (subst (λ b. Contains (state_of run).flights (b, number)) s.1 (subst (λ n. Contains (state_of run).flights (flight.block, n)) s.2 f.known), f, s.1)

-- and so it is as what is left of it
pub left_of : {A : Type 0} (run : Execution) (held : List (Flight A)) (block number at : ℕ) (flight : Flight A) (landed : Landed) → AreFlightsOf run held
    → position (is_numbered block number) held ≡ Some at → get_or held at flight ≡ flight → landed.block ≡ flight.block → landed.sequence ≡ flight.sequence
    → Contains (state_of run).flights (landed.block, landed.sequence)
left_of run held block number at flight landed are e is same number_same =
    let f = are.each flight (get_in held flight at (stands_at held block number at flight e is).0) in
    subst (λ b. Contains (state_of run).flights (b, landed.sequence)) (sym same) (subst (λ n. Contains (state_of run).flights (flight.block, n)) (sym number_same) f.known)

past_all : {X : Type 0} (p : X → Bool) (xs : List X) (n : ℕ) → n ≡ position_or_len p xs → cond (nat_lt n (length xs)) (Some n) None ≡ None → length xs ≤ n
past_all p xs n same e = elim (cases_Bool (nat_lt n (length xs))) [
  | inl u ↦ absurd (none-some n (sym (rw u at e)))
  | inr u ↦ grind (arith, nat_tests)
]

-- no member passes where there is no first one that does
none_passes : {X : Type 0} (p : X → Bool) (xs : List X) (x : X) → position p xs ≡ None → In xs x → p x ≡ false
none_passes p xs x e h =
    let k = in_get xs x h in
    let within : k.0 < length xs = slice_get_within xs k.0 x k.1 in
    let past : length xs ≤ position_or_len p xs = past_all p xs (position_or_len p xs) refl e in
    subst (λ y. p y ≡ false) (get_or_from_slice_get xs k.0 x x k.1) (fails_before_first p xs k.0 x (omega arith))

-- a block has one write that is out
abbrev pub Single : Type 0
Single = (run : Execution) (f g : ℕ × ℕ) → IsLegal run → Contains (state_of run).flights f → Contains (state_of run).flights g → f.0 ≡ g.0 → f ≡ g

-- a write that is out is held
pub is_held : {A : Type 0} → Single → (run : Execution) (held : List (Flight A)) (block number : ℕ) → IsLegal run → AreFlightsOf run held → IsOut run block number
    → (flight : Flight A) × In held flight × (is_numbered block number flight ≡ true)
is_held single run held block number legal are out =
    let flies : IsTrue (has_flight (state_of run) block) =
    list_any-from (λ (f : ℕ × ℕ). f.0 == block) (state_of run).flights (block, number) (In-from_Contains (state_of run).flights (block, number) out) (same_number block block refl) in
    let h = are.all refl block flies in
    let f = are.each h.0 h.1 in
    let same : (h.0.block, h.0.sequence) ≡ (block, number) = single run (h.0.block, h.0.sequence) (block, number) legal f.known out h.2 in
    (h.0, h.1, and_from (h.0.block == block) (h.0.sequence == number) (same_number h.0.block block h.2) (same_number h.0.sequence number (ap (λ (p : ℕ × ℕ). p.1) same)))

-- so one that isn't held isn't out
pub is_not_out : {A : Type 0} → Single → (run : Execution) (held : List (Flight A)) (block number : ℕ) → IsLegal run → AreFlightsOf run held → position (is_numbered block number) held ≡ None
    → IsNotOut run block number
is_not_out single run held block number legal are e out =
    let h = is_held single run held block number legal are out in
    let no : is_numbered block number h.0 ≡ false = none_passes (is_numbered block number) held h.0 e h.1 in
    let yes : is_numbered block number h.0 ≡ true = h.2 in absurd (cc)

-- With no write.

pub none_held : (A : Type 0) (run : Execution) → (state_of run).flights ≡ [] → AreFlightsOf {A = A} run []
none_held A run none = record {
  each = λ f h. absurd h;
  all = λ alone b t. let u : list_any (λ (f : ℕ × ℕ). f.0 == b) [] ≡ true = subst (λ (fs : List (ℕ × ℕ)). list_any (λ f. f.0 == b) fs ≡ true) none t in absurd (cc);
  once = λ i j f g p q e. absurd (none-some f p);
}

-- some patch of a block with a flight is in it
abbrev pub Holds : Type 0
Holds = (run : Execution) (block : ℕ) → IsLegal run → IsTrue (has_flight (state_of run) block) → IsTrue (list_any (λ e. is_flight e && e.patch.block == block) (entries_of run))

marked : (m : Mark) → marks_flight m ≡ true → not (marks_durable m) ≡ true
marked Memory t = absurd (cc)
marked Flies t = refl
marked Durable t = absurd (cc)

flying_lives : (e : Entry) → is_flight e ≡ true → is_live e ≡ true
flying_lives e t = marked e.mark t

inside_long : {X : Type 0} (xs : List X) (x : X) → In xs x → length xs ≡ 0 → ⊥
inside_long [] x h e = h
inside_long (y ∷ ys) x h e = absurd (omega arith)

none_counted : {X : Type 0} (p : X → Bool) (xs : List X) (x : X) → count_by p xs ≡ 0 → In xs x → p x ≡ true → ⊥
none_counted p xs x none h t = inside_long (filter p xs) x (In-filter p xs x h t) (length-filter p xs ∙ none)

-- no write is held where no patch is live
pub none_is_held : {A : Type 0} → Holds → (run : Execution) (held : List (Flight A)) → IsLegal run → AreFlightsOf run held → count_by is_live (entries_of run) ≡ 0 → held ≡ []
none_is_held holds run [] legal are none = refl
none_is_held holds run (flight ∷ held) legal are none =
    let flies = held_flies run (flight ∷ held) flight are (inl refl) in
    let r = list_any-at (λ e. is_flight e && e.patch.block == flight.block) (entries_of run) (holds run flight.block legal flies) in
    absurd (none_counted is_live (entries_of run) r.0 none r.1 (flying_lives r.0 (and_parts _ _ r.2).0))
