-- Tries and held flights of stretches, one after another.
use Rattle.std.proofs.Common.{inl, ◌≡◌, ℕ, ◌+◌, ◌<◌, ◌∙◌, Bool, true, false, cond, List, [], ◌∷◌, ◌++◌, length, refl, sym, ap, subst, arith, take, drop, get_or, swap_remove}
use Rattle.std.specs.Prelude.{◌==◌, count_by}
use Rattle.std.proofs.lemmas.List.{append-nil, take-append-drop}
use Rattle.std.proofs.lemmas.List.Sums.{sum_by-swap_remove}
use Rattle.patch_model.specs.Step.{Step, Create, Merge, Send, Complete}
use Rattle.patch_model.specs.Execution.{Execution, followed_by}
use Rattle.patch_device.specs.SameDevice.{same_still}
use Rattle.patch_device.specs.declared.devices.Device.{Ghosts}
use Rattle.patch_cache.specs.Contents.{Contents}
use Rattle.patch_cache.specs.Running.{held_by}
use Rattle.patch_cache.specs.Waves.{is_send, steps_since, Continues, HoldsBegun, NoneCanBegin, begun}
use Rattle.patch_cache.specs.Tries.{IsTried, AreTried, IsWave, AreWaves, EachTried, HoldsMore, NoneLost, is_of, begins, ends, tried_of}
use Rattle.patch_cache.specs.declared.flights.Flights.{Flights}
use Rattle.patch_cache.specs.declared.flights.Flight.{Flight}
use Rattle.patch_cache.proofs.Counting.{count-append, count_le}
use Rattle.patch_cache.proofs.Waving.{since_is, since_both}

-- Tries.

pub tried_both : {A D : Type 0} (g : Ghosts D) (xs ys : List (Flight A)) (old mid now : D) → AreTried g xs old mid → AreTried g ys mid now → AreTried g (xs ++ ys) old now
tried_both g [] ys old mid now first second = subst (λ d. AreTried g ys d now) (sym first) second
tried_both g (x ∷ xs) ys old mid now first second = (first.0, first.1, tried_both g xs ys first.0 mid now first.2 second)

-- one flight more
pub tried_more : {A D : Type 0} (g : Ghosts D) (xs : List (Flight A)) (flight : Flight A) (old mid now : D) → AreTried g xs old mid → IsTried g flight mid now → AreTried g (xs ++ flight ∷ []) old now
tried_more g xs flight old mid now first one = tried_both g xs (flight ∷ []) old mid now first (now, one, refl)

-- flights that weren't tried at all
pub untried : {A D : Type 0} (g : Ghosts D) (xs : List (Flight A)) (device : D) → AreTried g xs device device
untried g [] device = refl
untried g (x ∷ xs) device = (device, record { same = same_still g device; tries = omega arith; either = λ honest. inl refl }, untried g xs device)

-- and those behind the last one that was tried weren't
pub tried_so_far : {A D : Type 0} (g : Ghosts D) (held : List (Flight A)) (at : ℕ) (old now : D) → AreTried g (take (at + 1) held) old now → AreTried g held old now
tried_so_far g held at old now first =
    subst (λ xs. AreTried g xs old now) (take-append-drop (at + 1) held) (tried_both g (take (at + 1) held) (drop (at + 1) held) old now now first (untried g (drop (at + 1) held) now))

-- Steps.

begins_sends : (block : ℕ) (step : Step) → begins block step ≡ true → is_send step ≡ true
begins_sends block (Send b) is = refl
begins_sends block (Complete b) is = absurd (cc)
begins_sends block (Create b start bytes after undo) is = absurd (cc)
begins_sends block (Merge a b) is = absurd (cc)

-- steps that begin no write begin none of the block
pub begins_none : (steps : List Step) → count_by is_send steps ≡ 0 → (block : ℕ) → count_by (begins block) steps ≡ 0
begins_none steps none block = let few = count_le (begins block) is_send steps (λ step i is. begins_sends block step is) in omega (arith, few, none)

pub begun_here : {A : Type 0} (block : ℕ) (sent : Bool) (old now : Flights A) → HoldsBegun block sent old now → (b : ℕ) → HoldsMore (begun block sent) old now b
begun_here {A = A} block true old now held b =
    let one = count-append (is_of b) (held_by old) (held.0 ∷ []) in
    let all = ap (λ (xs : List (Flight A)). count_by (is_of b) xs) held.2 in
    let here : cond {A = ℕ} (held.0.block == b) 1 0 ≡ cond (block == b) 1 0 = ap (λ n. cond (n == b) 1 0) held.1 in
    record { held = omega (arith, one, all, here); none_ended = refl }
begun_here {A = A} block false old now held b = let all = ap (λ (xs : List (Flight A)). count_by (is_of b) xs) held in record { held = omega (arith, all); none_ended = refl }

pub begun_since : {A : Type 0} (block : ℕ) (sent : Bool) (old still mid : Contents) (flights held : Flights A) → still ≡ old → mid.trace ≡ still.trace ++ begun block sent → HoldsBegun block sent flights held
    → (b : ℕ) → HoldsMore (steps_since old mid) flights held b
begun_since {A = A} block sent old still mid flights held same is more b =
    let added : mid.trace ≡ old.trace ++ begun block sent = is ∙ ap (λ (x : Contents). x.trace ++ begun block sent) same in
    subst (λ s. HoldsMore s flights held b) (sym (since_is old mid (begun block sent) added)) (begun_here block sent flights held more b)

pub begun_one : (block : ℕ) (sent : Bool) → sent ≡ true → count_by is_send (begun block sent) ≡ 1
begun_one block true is = refl
begun_one block false is = absurd (cc)

-- more of them, and more
pub more_both : {A : Type 0} (a b : List Step) (old mid now : Flights A) → ((block : ℕ) → HoldsMore a old mid block) → ((block : ℕ) → HoldsMore b mid now block) → (block : ℕ) → HoldsMore (a ++ b) old now block
more_both a b old mid now first second block =
    let one = first block in
    let two = second block in
    let begun = count-append (begins block) a b in
    let ended = count-append (ends block) a b in
    let held_one = one.held in
    let held_two = two.held in
    let none_one = one.none_ended in
    let none_two = two.none_ended in record { held = omega (arith, held_one, held_two, begun); none_ended = omega (arith, none_one, none_two, ended) }

-- where nothing was done behind them
pub more_same : {A : Type 0} (old mid now : Contents) (first between last : Flights A) → now ≡ mid → held_by last ≡ held_by between → (block : ℕ) → HoldsMore (steps_since old mid) first between block
    → HoldsMore (steps_since old now) first last block
more_same {A = A} old mid now first between last same held block more =
    let all = ap (λ (xs : List (Flight A)). count_by (is_of block) xs) held in
    let was = more.held in
    let now_more : HoldsMore (steps_since old mid) first last block = record { held = omega (arith, all, was); none_ended = more.none_ended } in
    subst (λ (x : Contents). HoldsMore (steps_since old x) first last block) (sym same) now_more

-- Waves.

pub no_wave : {A D : Type 0} (g : Ghosts D) (xs : List (Flight A)) (device : D) → IsWave g xs device device
no_wave g xs device = record { mid = device; tried = untried g xs device; same = same_still g device; sync = omega arith; contents = λ honest. refl }

-- a wave that isn't synced
pub wave_unsynced : {A D : Type 0} (g : Ghosts D) (xs : List (Flight A)) (old now : D) → AreTried g xs old now → IsWave g xs old now
wave_unsynced g xs old now tried = record { mid = now; tried = tried; same = same_still g now; sync = omega arith; contents = λ honest. refl }

waves_both : {A D : Type 0} (g : Ghosts D) (xs ys : List (List (Flight A))) (old mid now : D) → AreWaves g xs old mid → AreWaves g ys mid now → AreWaves g (xs ++ ys) old now
waves_both g [] ys old mid now first second = subst (λ d. AreWaves g ys d now) (sym first) second
waves_both g (x ∷ xs) ys old mid now first second = (first.0, first.1, waves_both g xs ys first.0 mid now first.2 second)

tried_of_both : {A : Type 0} (block : ℕ) (xs ys : List (List (Flight A))) → tried_of block (xs ++ ys) ≡ tried_of block xs + tried_of block ys
tried_of_both block [] ys = omega arith
tried_of_both block (x ∷ xs) ys = let rest = tried_of_both block xs ys in omega (arith, rest)

-- nothing was done
pub each_none : {A D : Type 0} (g : Ghosts D) (steps : List Step) (held : List (Flight A)) (device : D) → ((block : ℕ) → count_by (begins block) steps ≡ 0) → EachTried g steps held device device
each_none g steps held device none = record {
  waves = held ∷ [];
  each = λ block. let no = none block in omega (arith, no);
  went = (device, no_wave g held device, refl);
}

pub each_still : {A D : Type 0} (g : Ghosts D) (old now : Contents) (held : List (Flight A)) (device : D) → now.trace ≡ old.trace ++ [] → EachTried g (steps_since old now) held device device
each_still g old now held device added = each_none g (steps_since old now) held device (λ block. ap (λ s. count_by (begins block) s) (since_is old now [] added))

-- all that is held went out, in one wave
pub each_wave : {A D : Type 0} (g : Ghosts D) (steps : List Step) (held : List (Flight A)) (old now : D) → ((block : ℕ) → count_by (begins block) steps ≡ 0) → IsWave g held old now → EachTried g steps held old now
each_wave g steps held old now none wave = record {
  waves = held ∷ [];
  each = λ block. let no = none block in omega (arith, no);
  went = (now, wave, refl);
}

-- and then what later steps have begun did
pub each_both : {A D : Type 0} (g : Ghosts D) (a b : List Step) (held more : List (Flight A)) (old mid now : D) → EachTried g a held old mid → ((block : ℕ) → count_by (is_of block) more ≡ 0) → EachTried g b more mid now
    → EachTried g (a ++ b) held old now
each_both g a b held more old mid now first none second = record {
  waves = first.waves ++ second.waves;
  each = λ block.
      let one = first.each block in
      let two = second.each block in
      let no = none block in
      let steps = count-append (begins block) a b in
      let both = tried_of_both block first.waves second.waves in omega (arith, one, two, no, steps, both);
  went = waves_both g first.waves second.waves old mid now first.went second.went;
}

pub each_since : {A D : Type 0} (g : Ghosts D) (old mid now : Contents) (held more : List (Flight A)) (first between last : D) → Continues old mid → Continues mid now
    → EachTried g (steps_since old mid) held first between → ((block : ℕ) → count_by (is_of block) more ≡ 0) → EachTried g (steps_since mid now) more between last
    → EachTried g (steps_since old now) held first last
each_since g old mid now held more first between last one two tried none later =
    subst (λ s. EachTried g s held first last) (sym (since_both old mid now one two)) (each_both g (steps_since old mid) (steps_since mid now) held more first between last tried none later)

-- what steps have begun wasn't tried yet
pub each_untried : {A D : Type 0} (g : Ghosts D) (steps : List Step) (before wave : Flights A) (device : D) → ((block : ℕ) → HoldsMore steps before wave block) → EachTried g steps (held_by before) device device
each_untried g steps before wave device more = record {
  waves = held_by wave ∷ [];
  each = λ block. let held = (more block).held in omega (arith, held);
  went = (device, no_wave g (held_by wave) device, refl);
}

-- or went out in one wave, behind which the next steps begin none
pub each_begun : {A D : Type 0} (g : Ghosts D) (mid sent now : Contents) (before wave : Flights A) (first last : D) → Continues mid sent → Continues sent now → ((block : ℕ) → HoldsMore (steps_since mid sent) before wave block)
    → count_by is_send (steps_since sent now) ≡ 0 → IsWave g (held_by wave) first last → EachTried g (steps_since mid now) (held_by before) first last
each_begun g mid sent now before wave first last one two more none went = record {
  waves = held_by wave ∷ [];
  each = λ block.
      let held = (more block).held in
      let no = begins_none (steps_since sent now) none block in
      let steps = ap (λ s. count_by (begins block) s) (since_both mid sent now one two) ∙ count-append (begins block) (steps_since mid sent) (steps_since sent now) in omega (arith, held, no, steps);
  went = (last, went, refl);
}

pub none_of : {A : Type 0} (held : List (Flight A)) → held ≡ [] → (block : ℕ) → count_by (is_of block) held ≡ 0
none_of held none block = ap (λ xs. count_by (is_of block) xs) none

-- No flight is lost.

pub kept_more : {A : Type 0} (steps : List Step) (old now : Flights A) → ((block : ℕ) → HoldsMore steps old now block) → NoneLost steps old now
kept_more steps old now more block = let held = (more block).held in let none = (more block).none_ended in omega (arith, held, none)

pub lost_still : {A : Type 0} (old now : Contents) (flights flights_now : Flights A) → now.trace ≡ old.trace ++ [] → held_by flights_now ≡ held_by flights → NoneLost (steps_since old now) flights flights_now
lost_still {A = A} old now flights flights_now added held block =
    let none = since_is old now [] added in
    let all = ap (λ (xs : List (Flight A)). count_by (is_of block) xs) held in
    let no_end = ap (λ s. count_by (ends block) s) none in
    let no_begin = ap (λ s. count_by (begins block) s) none in omega (arith, all, no_end, no_begin)

pub lost_both : {A : Type 0} (old mid now : Contents) (first between last : Flights A) → Continues old mid → Continues mid now → NoneLost (steps_since old mid) first between → NoneLost (steps_since mid now) between last
    → NoneLost (steps_since old now) first last
lost_both old mid now first between last one two a b block =
    let steps = since_both old mid now one two in
    let begun = ap (λ s. count_by (begins block) s) steps ∙ count-append (begins block) (steps_since old mid) (steps_since mid now) in
    let ended = ap (λ s. count_by (ends block) s) steps ∙ count-append (ends block) (steps_since old mid) (steps_since mid now) in
    let here = a block in
    let there = b block in omega (arith, begun, ended, here, there)

-- the first flight is completed
pub lost_first : {A : Type 0} (old now : Contents) (held left : List (Flight A)) (flight : Flight A) (block : ℕ) → 0 < length held → flight ≡ get_or held 0 flight
    → left ≡ swap_remove held 0 flight → block ≡ flight.block → now.trace ≡ old.trace ++ Complete block ∷ []
    → (b : ℕ) → count_by (is_of b) left + count_by (ends b) (steps_since old now) ≡ count_by (is_of b) held + count_by (begins b) (steps_since old now)
lost_first {A = A} old now held left flight block some is less here added b =
    let steps = since_is old now (Complete block ∷ []) added in
    let begun = ap (λ s. count_by (begins b) s) steps in
    let ended = ap (λ s. count_by (ends b) s) steps in
    let fewer = ap (λ (xs : List (Flight A)). count_by (is_of b) xs) less in
    let rest = sum_by-swap_remove (λ (f : Flight A). cond (is_of b f) 1 0) held 0 flight some in
    let first : cond {A = ℕ} (is_of b (get_or held 0 flight)) 1 0 ≡ cond (block == b) 1 0 = ap (λ (f : Flight A). cond (is_of b f) 1 0) (sym is) ∙ ap (λ n. cond (n == b) 1 0) (sym here) in
    omega (arith, begun, ended, fewer, rest, first)

-- None can begin behind a stretch of no steps.
pub none_after : (run : Execution) (a b : List Step) → b ≡ [] → NoneCanBegin (followed_by run a) → NoneCanBegin (followed_by run (a ++ b))
none_after run a b none off = subst (λ s. NoneCanBegin (followed_by run s)) (sym (ap (λ x. a ++ x) none ∙ append-nil a)) off
