-- What is held stays the flights of the execution.
use Rattle.std.proofs.Common.{◌≡◌, ◌≢◌, ℕ, zero, suc, Bool, true, false, ◌+◌, ◌-◌, ◌<◌, ◌≤◌, ◌⊎◌, inl, inr, ◌∙◌, Some, None, List, [], ◌∷◌, ◌++◌, length, refl, sym, ap, subst, arith}
use Rattle.std.specs.Prelude.{◌==◌, ◌&&◌, not, nat_lt, cond, filter, slice_get, IsTrue, IsFalse, Contains}
use Rattle.std.specs.List.{list_any, position, position_or_len, swap_remove}
use Rattle.std.proofs.Math.ListN.{get_or, set, take}
use Rattle.std.proofs.lemmas.Bool.{cases_Bool, cases_eq, and_parts}
use Rattle.std.proofs.lemmas.Bool.Decides.{nat_tests}
use Rattle.std.proofs.lemmas.List.{get_or-take, get_or-set_other, length-set, length-take-le}
use Rattle.std.proofs.lemmas.List.Sums.{fails_before_first}
use Rattle.std.proofs.lemmas.Grind.{get_or-set_at}
use Rattle.std.proofs.lemmas.List.Quantifiers.{position-Some}
use Rattle.std.proofs.lemmas.Option.{none-some, same_Some, slice_get-get_or, slice_get_within, get_or_from_slice_get}
use Rattle.patch_model.specs.declared.patches.Undo.{Undo}
use Rattle.patch_model.specs.Step.{Step, Create, Merge, Send, Complete}
use Rattle.patch_model.specs.Execution.{Execution, extended}
use Rattle.patch_model.specs.Entry.{Entry, is_flight}
use Rattle.patch_model.specs.Ready.{ready}
use Rattle.patch_model.specs.State.{after_step, state_of, entries_of, has_flight, flying_of, numbers_of}
use Rattle.patch_model.specs.History.{history_of, image}
use Rattle.patch_model.specs.Legal.{IsLegal}
use Rattle.patch_model.specs.Member.{In, In-from_Contains, Contains-from_In, In-filter, filter-In, list_any-from, list_any-at}
use Rattle.patch_cache.specs.Flights.{IsSent, IsFlightOf, AreFlightsOf, AreFlightsBeside}
use Rattle.patch_cache.specs.declared.flights.Flight.{Flight}

-- the laws of flights, as they are handed on
abbrev pub StatesExtend : Type 0
StatesExtend = (run : Execution) (step : Step) → state_of (extended run step) ≡ after_step (state_of run) step

abbrev pub ImagesStay : Type 0
ImagesStay = (run : Execution) (step : Step) (block : ℕ) → step ≢ Send block → image (history_of (extended run step) block) ≡ image (history_of run block)

abbrev pub StayMade : Type 0
StayMade = (run : Execution) (at start : ℕ) (bytes after : List ℕ) (undo : Undo) (block : ℕ)
    → numbers_of (flying_of (entries_of (extended run (Create at start bytes after undo))) block) ≡ numbers_of (flying_of (entries_of run) block)

abbrev pub StayMerged : Type 0
StayMerged = (run : Execution) (a b block : ℕ) → numbers_of (flying_of (entries_of (extended run (Merge a b))) block) ≡ numbers_of (flying_of (entries_of run) block)

abbrev pub StaySent : Type 0
StaySent = (run : Execution) (other block : ℕ) → other ≢ block → numbers_of (flying_of (entries_of (extended run (Send other))) block) ≡ numbers_of (flying_of (entries_of run) block)

abbrev pub StayLanded : Type 0
StayLanded = (run : Execution) (other block : ℕ) → other ≢ block → numbers_of (flying_of (entries_of (extended run (Complete other))) block) ≡ numbers_of (flying_of (entries_of run) block)

abbrev pub AreSent : Type 0
AreSent = (run : Execution) (block : ℕ) → IsLegal run → IsFalse (has_flight (state_of run) block)
    → numbers_of (flying_of (entries_of (extended run (Send block))) block) ≡ numbers_of (ready (entries_of run) block)

-- a flight, where all of it stays
flight_alike : {A : Type 0} (run next : Execution) (flight : Flight A)
    → (Contains (state_of run).flights (flight.block, flight.sequence) → Contains (state_of next).flights (flight.block, flight.sequence))
    → numbers_of (flying_of (entries_of next) flight.block) ≡ numbers_of (flying_of (entries_of run) flight.block)
    → image (history_of next flight.block) ≡ image (history_of run flight.block) → IsFlightOf run flight → IsFlightOf next flight
flight_alike run next flight known numbers images is =
    record { known = known is.known; numbers_are = is.numbers_are ∙ sym numbers; image_is = is.image_is ∙ sym images }

-- the flights, where all of them stay
all_alike : {A : Type 0} {others : Bool} (run next : Execution) (held : List (Flight A)) → (state_of next).flights ≡ (state_of run).flights
    → ((block : ℕ) → numbers_of (flying_of (entries_of next) block) ≡ numbers_of (flying_of (entries_of run) block))
    → ((block : ℕ) → image (history_of next block) ≡ image (history_of run block)) → AreFlightsBeside others run held → AreFlightsBeside others next held
all_alike run next held same numbers images are = record {
  each = λ f h. flight_alike run next f (subst (λ (fs : List (ℕ × ℕ)). Contains fs (f.block, f.sequence)) (sym same)) (numbers f.block) (images f.block) (are.each f h);
  all = λ none b t. are.all none b (subst (λ (fs : List (ℕ × ℕ)). IsTrue (list_any (λ f. f.0 == b) fs)) same t);
  once = are.once;
}

pub held_create : {A : Type 0} {others : Bool} → StatesExtend → StayMade → ImagesStay → (run : Execution) (at start : ℕ) (bytes after : List ℕ) (undo : Undo) (held : List (Flight A))
    → AreFlightsBeside others run held → AreFlightsBeside others (extended run (Create at start bytes after undo)) held
held_create extend made stay run at start bytes after undo held are =
    let step : Step = Create at start bytes after undo in
    all_alike run (extended run step) held (ap (λ st. st.flights) (extend run step)) (made run at start bytes after undo) (λ b. stay run step b (λ e. absurd (cc))) are

pub held_merge : {A : Type 0} {others : Bool} → StatesExtend → StayMerged → ImagesStay → (run : Execution) (a b : ℕ) (held : List (Flight A))
    → AreFlightsBeside others run held → AreFlightsBeside others (extended run (Merge a b)) held
held_merge extend merged stay run a b held are =
    all_alike run (extended run (Merge a b)) held (ap (λ st. st.flights) (extend run (Merge a b))) (merged run a b) (λ n. stay run (Merge a b) n (λ e. absurd (cc))) are

-- Lists with one more, and with one taken out.

pushed : {X : Type 0} (xs : List X) (x y : X) → In (xs ++ x ∷ []) y → In xs y ⊎ (x ≡ y)
pushed [] x y (inl e) = inr e
pushed [] x y (inr h) = absurd h
pushed (z ∷ zs) x y (inl e) = inl (inl e)
pushed (z ∷ zs) x y (inr h) = elim (pushed zs x y h) [ inl g ↦ inl (inr g) | inr e ↦ inr e ]

old_in : {X : Type 0} (xs : List X) (x y : X) → In xs y → In (xs ++ x ∷ []) y
old_in [] x y h = absurd h
old_in (z ∷ zs) x y (inl e) = inl e
old_in (z ∷ zs) x y (inr h) = inr (old_in zs x y h)

new_in : {X : Type 0} (xs : List X) (x y : X) → x ≡ y → In (xs ++ x ∷ []) y
new_in [] x y e = inl e
new_in (z ∷ zs) x y e = inr (new_in zs x y e)

get_pushed : {X : Type 0} (xs : List X) (x y : X) (i : ℕ) → slice_get (xs ++ x ∷ []) i ≡ Some y → (slice_get xs i ≡ Some y) ⊎ ((i ≡ length xs) × (x ≡ y))
get_pushed [] x y zero e = inr (refl, same_Some x y e)
get_pushed [] x y (suc i) e = absurd (none-some y e)
get_pushed (z ∷ zs) x y zero e = inl e
get_pushed (z ∷ zs) x y (suc i) e = elim (get_pushed zs x y i e) [ inl h ↦ inl h | inr h ↦ inr (ap suc h.0, h.1) ]

pub get_in : {X : Type 0} (xs : List X) (y : X) (i : ℕ) → slice_get xs i ≡ Some y → In xs y
get_in [] y i e = absurd (none-some y e)
get_in (z ∷ zs) y zero e = inl (same_Some z y e)
get_in (z ∷ zs) y (suc i) e = inr (get_in zs y i e)

pub in_get : {X : Type 0} (xs : List X) (y : X) → In xs y → (i : ℕ) × (slice_get xs i ≡ Some y)
in_get [] y h = absurd h
in_get (z ∷ zs) y (inl e) = (0, ap Some e)
in_get (z ∷ zs) y (inr h) = let r = in_get zs y h in (suc r.0, r.1)

-- what a list holds at a place, once the last took the place of one
replaced_at : {X : Type 0} (xs : List X) (i : ℕ) (d : X) (k : ℕ) (y : X) → k + 1 < length xs → get_or (swap_remove xs i d) k y ≡ get_or (set xs i (get_or xs (length xs - 1) d)) k y
replaced_at xs i d k y h = get_or-take (length xs - 1) (set xs i (get_or xs (length xs - 1) d)) k y (omega arith)

short : {X : Type 0} (xs : List X) (i : ℕ) (d : X) (k : ℕ) → i < length xs → k < length (swap_remove xs i d) → k + 1 < length xs
short xs i d k h within =
    let moved = set xs i (get_or xs (length xs - 1) d) in
    let all : length moved ≡ length xs = length-set xs i (get_or xs (length xs - 1) d) in
    let long : length (take (length xs - 1) moved) ≡ length xs - 1 = length-take-le (length xs - 1) moved (omega (arith, all)) in
    omega (arith, long, within, h)

-- what stands at a place then stood there before, or last
taken_from : {X : Type 0} (xs : List X) (i : ℕ) (d : X) (k : ℕ) (y : X) → i < length xs → slice_get (swap_remove xs i d) k ≡ Some y
    → (k + 1 < length xs) × (((k ≡ i) × (slice_get xs (length xs - 1) ≡ Some y)) ⊎ ((k ≢ i) × (slice_get xs k ≡ Some y)))
taken_from xs i d k y h e =
    let low : k + 1 < length xs = short xs i d k h (slice_get_within (swap_remove xs i d) k y e) in
    let last : ℕ = length xs - 1 in
    let there : get_or (set xs i (get_or xs last d)) k y ≡ y = sym (replaced_at xs i d k y low) ∙ get_or_from_slice_get (swap_remove xs i d) k y y e in (
      low,
      elim (cases_eq k i) [
        | inl same ↦
            let here : get_or xs last d ≡ y = sym (get_or-set_at xs i k (get_or xs last d) y same h) ∙ there in
            inl (same, slice_get-get_or xs last d (omega arith) ∙ ap Some here)
        | inr other ↦
            let here : get_or xs k y ≡ y = sym (get_or-set_other xs i k (get_or xs last d) y other) ∙ there in
            inr (other, slice_get-get_or xs k y (omega arith) ∙ ap Some here)
      ],
    )

at_place : {X : Type 0} (xs : List X) (y : X) (k : ℕ) → slice_get xs k ≡ Some y → In xs y
at_place xs y k e = In-from_Contains xs y (k, slice_get_within xs k y e, get_or_from_slice_get xs k y y e)

pub inside_at : {X : Type 0} (xs : List X) (y : X) (k : ℕ) → k < length xs → y ≡ get_or xs k y → In xs y
inside_at xs y k within is = In-from_Contains xs y (k, within, sym is)

-- so it was in the list
pub removed_inside : {X : Type 0} (xs : List X) (i : ℕ) (d y : X) → i < length xs → In (swap_remove xs i d) y → In xs y
removed_inside xs i d y h inside =
    let at = in_get (swap_remove xs i d) y inside in
    elim (taken_from xs i d at.0 y h at.1).1 [
      | inl last ↦ at_place xs y (length xs - 1) last.1
      | inr same ↦ at_place xs y at.0 same.1
    ]

-- and all but that one are in it still
still_in : {X : Type 0} (xs : List X) (i : ℕ) (d : X) (k : ℕ) (y : X) → i < length xs → slice_get xs k ≡ Some y → k ≢ i → In (swap_remove xs i d) y
still_in xs i d k y h e other =
    let last : ℕ = length xs - 1 in
    let moved = set xs i (get_or xs last d) in
    let within : k < length xs = slice_get_within xs k y e in
    let all : length moved ≡ length xs = length-set xs i (get_or xs last d) in
    let long : length (take last moved) ≡ last = length-take-le last moved (omega (arith, all)) in
    elim (cases_eq k last) [
      | inl same ↦
          let low : i + 1 < length xs = omega arith in
          let here : get_or xs last d ≡ y = get_or_from_slice_get xs last y d (subst (λ n. slice_get xs n ≡ Some y) same e) in
          In-from_Contains (swap_remove xs i d) y (i, omega (arith, long), replaced_at xs i d i y low ∙ get_or-set_at xs i i (get_or xs last d) y refl h ∙ here)
      | inr apart ↦
          let low : k + 1 < length xs = omega arith in
          In-from_Contains (swap_remove xs i d) y
          (k, omega (arith, long), replaced_at xs i d k y low ∙ get_or-set_other xs i k (get_or xs last d) y other ∙ get_or_from_slice_get xs k y y e)
    ]

-- Flights.

same_number : (a b : ℕ) → a ≡ b → (a == b) ≡ true
same_number a b e = grind (arith, nat_tests)

other_number : (a b : ℕ) → a ≢ b → not (a == b) ≡ true
other_number a b e = grind (arith, nat_tests)

is_same : (a b : ℕ) → (a == b) ≡ true → a ≡ b
is_same a b e = grind (arith, nat_tests)

is_other : (a b : ℕ) → not (a == b) ≡ true → a ≢ b
is_other a b e = grind (arith, nat_tests)

has_pair : (fs : List (ℕ × ℕ)) (block number : ℕ) → In fs (block, number) → IsTrue (list_any (λ f. f.0 == block) fs)
has_pair fs block number h = list_any-from (λ (f : ℕ × ℕ). f.0 == block) fs (block, number) h (same_number block block refl)

-- the block of a held flight has one
pub held_flies : {A : Type 0} {others : Bool} (run : Execution) (held : List (Flight A)) (flight : Flight A) → AreFlightsBeside others run held → In held flight → IsTrue (has_flight (state_of run) flight.block)
held_flies run held flight are h =
    has_pair (state_of run).flights flight.block flight.sequence (In-from_Contains (state_of run).flights (flight.block, flight.sequence) (are.each flight h).known)

-- a write begins, and its flight is held
pub held_send : {A : Type 0} {others : Bool} → StatesExtend → ImagesStay → AreSent → StaySent → (run : Execution) (block : ℕ) (held : List (Flight A)) (flight : Flight A) → IsLegal run
    → IsFalse (has_flight (state_of run) block) → IsSent run block flight → AreFlightsBeside others run held → AreFlightsBeside others (extended run (Send block)) (held ++ flight ∷ [])
held_send {A = A} extend stay sent elsewhere run block held flight legal none is are =
    let next : Execution = extended run (Send block) in
    let before : List (ℕ × ℕ) = (state_of run).flights in
    let pair : ℕ × ℕ = (block, (state_of run).sends) in
    let now : (state_of next).flights ≡ before ++ pair ∷ [] = ap (λ st. st.flights) (extend run (Send block)) in
    let apart : (f : Flight A) → In held f → f.block ≢ block =
    λ f h e. let yes : has_flight (state_of run) block ≡ true = subst (λ b. has_flight (state_of run) b ≡ true) e (held_flies run held f are h) in absurd (cc) in
    let new : IsFlightOf next flight = record {
      known = subst (λ (fs : List (ℕ × ℕ)). Contains fs (flight.block, flight.sequence)) (sym now)
          (Contains-from_In (before ++ pair ∷ []) (flight.block, flight.sequence) (new_in before pair (flight.block, flight.sequence) (let b = is.block_is in let n = is.sequence_is in cc)));
      numbers_are = is.numbers_are ∙ sym (sent run block legal none) ∙ ap (λ b. numbers_of (flying_of (entries_of next) b)) (sym is.block_is);
      image_is = is.image_is ∙ ap (λ b. image (history_of next b)) (sym is.block_is);
    } in record {
      each = λ f h. elim (pushed held flight f h) [
        | inl i ↦
            flight_alike run next f
            (λ k. subst (λ (fs : List (ℕ × ℕ)). Contains fs (f.block, f.sequence)) (sym now)
            (Contains-from_In (before ++ pair ∷ []) (f.block, f.sequence) (old_in before pair (f.block, f.sequence) (In-from_Contains before (f.block, f.sequence) k))))
            (elsewhere run block f.block (λ e. apart f i (sym e))) (stay run (Send block) f.block (λ e. let same : block ≡ f.block = cc in apart f i (sym same))) (are.each f i)
        | inr e ↦ subst (IsFlightOf next) e new
      ];
      all = λ alone b t.
          let r = list_any-at (λ (f : ℕ × ℕ). f.0 == b) (before ++ pair ∷ []) (subst (λ (fs : List (ℕ × ℕ)). list_any (λ f. f.0 == b) fs ≡ true) now t) in
          elim (pushed before pair r.0 r.1) [
            | inl i ↦ let h = are.all alone b (list_any-from (λ (f : ℕ × ℕ). f.0 == b) before r.0 i r.2) in (h.0, old_in held flight h.0 h.1, h.2)
            | inr e ↦ (flight, new_in held flight flight refl, is.block_is ∙ ap (λ (f : ℕ × ℕ). f.0) e ∙ is_same r.0.0 b r.2)
          ];
      once = λ i j f g p q e. elim (get_pushed held flight f i p) [
        | inl a ↦ elim (get_pushed held flight g j q) [
          | inl b ↦ are.once i j f g a b e
          | inr b ↦ absurd (apart f (get_in held f i a) (e ∙ ap (λ x. x.block) (sym b.1) ∙ is.block_is))
        ]
        | inr a ↦ elim (get_pushed held flight g j q) [
          | inl b ↦ absurd (apart g (get_in held g j b) (sym e ∙ ap (λ x. x.block) (sym a.1) ∙ is.block_is))
          | inr b ↦ a.0 ∙ sym b.0
        ]
      ];
    }

elsewhere_stands : {A : Type 0} (held : List (Flight A)) (block b n at k : ℕ) (flight f : Flight A) → slice_get held at ≡ Some flight → flight.block ≡ block → slice_get held k ≡ Some f → f.block ≡ b
    → (n == b) ≡ true → not (n == block) ≡ true → k ≢ at
elsewhere_stands held block b n at k flight f stands is here of same other e =
    let one : f ≡ flight = same_Some f flight (sym here ∙ ap (λ i. slice_get held i) e ∙ stands) in
    is_other n block other (is_same n b same ∙ sym of ∙ ap (λ x. x.block) one ∙ is)

-- a write ends, and its flight is taken out of the held ones
pub held_complete : {A : Type 0} {others : Bool} → StatesExtend → ImagesStay → StayLanded → (run : Execution) (block : ℕ) (held : List (Flight A)) (at : ℕ) (flight left : Flight A)
    → slice_get held at ≡ Some flight → flight.block ≡ block → AreFlightsBeside others run held → AreFlightsBeside others (extended run (Complete block)) (swap_remove held at left)
held_complete {A = A} extend stay elsewhere run block held at flight left stands is are =
    let next : Execution = extended run (Complete block) in
    let before : List (ℕ × ℕ) = (state_of run).flights in
    let others : ℕ × ℕ → Bool = λ f. not (f.0 == block) in
    let now : (state_of next).flights ≡ filter others before = ap (λ st. st.flights) (extend run (Complete block)) in
    let within : at < length held = slice_get_within held at flight stands in
    let apart : (k : ℕ) (f : Flight A) → slice_get held k ≡ Some f → k ≢ at → f.block ≢ block =
    λ k f p other e. other (are.once k at f flight p stands (e ∙ sym is)) in
    let stays : (k : ℕ) (f : Flight A) → slice_get held k ≡ Some f → k ≢ at → IsFlightOf next f =
    λ k f p other.
    let of_other : f.block ≢ block = apart k f p other in
    flight_alike run next f
    (λ c. subst (λ (fs : List (ℕ × ℕ)). Contains fs (f.block, f.sequence)) (sym now)
    (Contains-from_In (filter others before) (f.block, f.sequence)
    (In-filter others before (f.block, f.sequence) (In-from_Contains before (f.block, f.sequence) c) (other_number f.block block of_other))))
    (elsewhere run block f.block (λ e. of_other (sym e))) (stay run (Complete block) f.block (λ e. absurd (cc))) (are.each f (get_in held f k p)) in record {
      each = λ f h.
          let r = in_get (swap_remove held at left) f h in
          let from = taken_from held at left r.0 f within r.1 in
          let low : r.0 + 1 < length held = from.0 in
          elim from.1 [
            | inl last ↦ let same : r.0 ≡ at = last.0 in stays (length held - 1) f last.1 (λ e. let lower : length held - 1 ≡ at = e in absurd (omega (arith, low, same, lower)))
            | inr there ↦ stays r.0 f there.1 there.0
          ];
      all = λ alone b t.
          let r = list_any-at (λ (f : ℕ × ℕ). f.0 == b) (filter others before) (subst (λ (fs : List (ℕ × ℕ)). list_any (λ f. f.0 == b) fs ≡ true) now t) in
          let kept = filter-In others before r.0 r.1 in
          let h = are.all alone b (list_any-from (λ (f : ℕ × ℕ). f.0 == b) before r.0 kept.0 r.2) in
          let k = in_get held h.0 h.1 in
          let other : k.0 ≢ at = elsewhere_stands held block b r.0.0 at k.0 flight h.0 stands is k.1 h.2 r.2 kept.1 in
          (h.0, still_in held at left k.0 h.0 within k.1 other, h.2);
      once = λ i j f g p q e.
          let a = taken_from held at left i f within p in
          let b = taken_from held at left j g within q in
          let low : i + 1 < length held = a.0 in
          let below : j + 1 < length held = b.0 in
          elim a.1 [
            | inl u ↦ elim b.1 [
              | inl v ↦ u.0 ∙ sym v.0
              | inr v ↦ let one : length held - 1 ≡ j = are.once (length held - 1) j f g u.1 v.1 e in absurd (omega (arith, one, below))
            ]
            | inr u ↦ elim b.1 [
              | inl v ↦ let one : i ≡ length held - 1 = are.once i (length held - 1) f g u.1 v.1 e in absurd (omega (arith, one, low))
              | inr v ↦ are.once i j f g u.1 v.1 e
            ]
          ];
    }

-- what stands at the block's place is its flight
pub stands_at : {A : Type 0} (held : List (Flight A)) (block at : ℕ) (flight : Flight A) → position (λ f. f.block == block) held ≡ Some at → get_or held at flight ≡ flight
    → (slice_get held at ≡ Some flight) × (flight.block ≡ block)
stands_at held block at flight e is =
    let r = position-Some (λ f. f.block == block) held at flight e in
    (slice_get-get_or held at flight r.0 ∙ ap Some is, is_same flight.block block (subst (λ f. (f.block == block) ≡ true) is r.1))

past_all : {X : Type 0} (p : X → Bool) (xs : List X) (n : ℕ) → n ≡ position_or_len p xs → cond (nat_lt n (length xs)) (Some n) None ≡ None → length xs ≤ n
past_all p xs n same e = elim (cases_Bool (nat_lt n (length xs))) [
  | inl u ↦ absurd (none-some n (sym (rw u at e)))
  | inr u ↦ grind (arith, nat_tests)
]

-- where there is none, no held flight is the block's
pub none_stands : {A : Type 0} (run : Execution) (held : List (Flight A)) (block : ℕ) → AreFlightsOf run held → position (λ f. f.block == block) held ≡ None
    → has_flight (state_of run) block ≡ false
none_stands {A = A} run held block are e = elim (cases_Bool (has_flight (state_of run) block)) [
  | inl flies ↦
      let h = are.all refl block flies in
      let k = in_get held h.0 h.1 in
      let test : Flight A → Bool = λ f. f.block == block in
      let within : k.0 < length held = slice_get_within held k.0 h.0 k.1 in
      let none : length held ≤ position_or_len test held = past_all test held (position_or_len test held) refl e in
      let fails : (h.0.block == block) ≡ false =
      subst (λ f. test f ≡ false) (get_or_from_slice_get held k.0 h.0 h.0 k.1) (fails_before_first test held k.0 h.0 (omega arith)) in
      let passes : (h.0.block == block) ≡ true = same_number h.0.block block h.2 in absurd (cc)
  | inr none ↦ none
]

-- a block with a flight is one that there is
pub flying_known : ((run : Execution) (block : ℕ) → IsLegal run → IsTrue (has_flight (state_of run) block) → IsTrue (list_any (λ e. is_flight e && e.patch.block == block) (entries_of run)))
    → ((run : Execution) (e : Entry) → IsLegal run → Contains (entries_of run) e → e.patch.block < length run.first) → (run : Execution) (block : ℕ) → IsLegal run
    → IsTrue (has_flight (state_of run) block) → block < length run.first
flying_known holds known run block legal flies =
    let r = list_any-at (λ e. is_flight e && e.patch.block == block) (entries_of run) (holds run block legal flies) in
    let at : r.0.patch.block ≡ block = is_same r.0.patch.block block (and_parts _ _ r.2).1 in
    subst (λ b. b < length run.first) at (known run r.0 legal (Contains-from_In (entries_of run) r.0 r.1))
