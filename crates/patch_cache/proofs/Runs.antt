-- A run of asks, one more at a time.
use Rattle.std.proofs.Common.{ℕ, Bool, false, ◌≡◌, ◌<◌, ◌∙◌, List, [], ◌∷◌, ◌++◌, length, map, get_or, refl, sym, ap, subst, arith}
use Rattle.std.proofs.lemmas.List.{map-append, get_or-map, length-map}
use Rattle.patch_model.specs.Execution.{Execution}
use Rattle.patch_cache.specs.Contents.{Contents}
use Rattle.patch_cache.specs.Asks.{Ask, Answer, ask_of, answer_of, after, after_all, step_added, steps_added}
use Rattle.patch_cache.specs.Running.{RunsBy, HasRunBy, IsAnsweredBy, HasWritten, HaveWritten, CountsFaults, CountFaults, IsCrashSafe}
use Rattle.patch_cache.specs.Waves.{HoldImages}
use Rattle.patch_cache.specs.Bringing.{RunsOnImages, IsServedOnImages, HasRunOnImages}
use Rattle.patch_device.specs.SameDevice.{IsSameDevice}
use Rattle.patch_device.specs.declared.devices.Device.{Ghosts}
use Rattle.patch_cache.specs.declared.flights.Flights.{Flights}
use Rattle.patch_cache.specs.declared.asks.Ask.{Ask as CodeAsk}
use Rattle.patch_cache.specs.declared.asks.Answer.{Answer as CodeAnswer}
use Rattle.patch_cache.proofs.Asking.{after_none, one_more, one_more_added, one_more_written, one_more_counted}
use Rattle.patch_cache.proofs.Crashing.{unmoved, joined_ask}

-- nothing is answered yet
pub begun : {A : Type 0} (whole : Bool) (run : Execution) (asks : List Ask) (cache : Contents) (flights : Flights A) → RunsBy whole cache flights run → HasRunBy whole run asks [] cache flights
begun whole run asks cache flights r = record { right = tt; runs = subst (RunsBy whole cache flights) (sym (after_none run asks)) r }

pub none_answered : {A D : Type 0} (g : Ghosts D) (run : Execution) (asks : List Ask) (cache : Contents) (flights : Flights A) (device : D)
    → RunsOnImages g cache flights device run → HasRunOnImages g run asks [] cache flights device device
none_answered g run asks cache flights device on = record {
  ran = begun false run asks cache flights on.on.runs;
  faults = refl;
  written = λ honest. refl;
  crash = λ honest left. subst (λ now. IsCrashSafe g run now device device) (sym (after_none run asks)) (unmoved g run device left);
  images = subst (λ now. HoldImages now (g.contents device)) (sym (after_none run asks)) on.images;
}

-- what one more answer makes of the execution
pub stepped : {A : Type 0} (whole : Bool) (run : Execution) (asks : List (CodeAsk A)) (answers : List (CodeAnswer A)) (ask : CodeAsk A) (answer : CodeAnswer A) (cache next : Contents) (flights more : Flights A)
    → length answers < length asks → get_or asks (length answers) ask ≡ ask
    → HasRunBy whole run (map ask_of asks) (map answer_of answers) cache flights
    → IsAnsweredBy whole (after_all run (map ask_of asks) (map answer_of answers)) (ask_of ask) (answer_of answer) next more
    → HasRunBy whole run (map ask_of asks) (map answer_of (answers ++ answer ∷ [])) next more
    × (after_all run (map ask_of asks) (map answer_of (answers ++ answer ∷ [])) ≡ after (after_all run (map ask_of asks) (map answer_of answers)) (ask_of ask) (answer_of answer))
stepped whole run asks answers ask answer cache next flights more within at so_far one =
    let told : List Answer = map answer_of answers in
    let long : length told ≡ length answers = length-map answers answer_of in
    let asked : length (map ask_of asks) ≡ length asks = length-map asks ask_of in
    let here : get_or (map ask_of asks) (length told) (ask_of ask) ≡ ask_of ask =
    ap (λ n. get_or (map ask_of asks) n (ask_of ask)) long ∙ get_or-map ask_of asks (length answers) ask (ask_of ask) within ∙ ap ask_of at in
    let r = one_more whole run (map ask_of asks) told (ask_of ask) (answer_of answer) (omega (arith, within, long, asked)) here so_far.right one.right in
    let is : map answer_of (answers ++ answer ∷ []) ≡ told ++ answer_of answer ∷ [] = map-append answer_of answers (answer ∷ []) in
    let goes = ap (after_all run (map ask_of asks)) is ∙ r.1 in (
      record { right = rw is r.0; runs = subst (RunsBy whole next more) (sym goes) one.runs },
      goes,
    )

-- and of the disk
pub stepped_written : {A : Type 0} (run : Execution) (asks : List (CodeAsk A)) (answers : List (CodeAnswer A)) (ask : CodeAsk A) (answer : CodeAnswer A) (old between new : List (List ℕ))
    → length answers < length asks → get_or asks (length answers) ask ≡ ask
    → HaveWritten run (map ask_of asks) (map answer_of answers) old between
    → HasWritten (after_all run (map ask_of asks) (map answer_of answers)) (ask_of ask) (answer_of answer) between new
    → HaveWritten run (map ask_of asks) (map answer_of (answers ++ answer ∷ [])) old new
stepped_written run asks answers ask answer old between new within at so_far one =
    let told : List Answer = map answer_of answers in
    let long : length told ≡ length answers = length-map answers answer_of in
    let asked : length (map ask_of asks) ≡ length asks = length-map asks ask_of in
    let here : get_or (map ask_of asks) (length told) (ask_of ask) ≡ ask_of ask =
    ap (λ n. get_or (map ask_of asks) n (ask_of ask)) long ∙ get_or-map ask_of asks (length answers) ask (ask_of ask) within ∙ ap ask_of at in
    let is : map answer_of (answers ++ answer ∷ []) ≡ told ++ answer_of answer ∷ [] = map-append answer_of answers (answer ∷ []) in
    subst (λ all. HaveWritten run (map ask_of asks) all old new) (sym is) (one_more_written run (map ask_of asks) told (ask_of ask) (answer_of answer) old between new
    (omega (arith, within, long, asked)) here so_far one)

-- and of the trace
pub stepped_added : {A : Type 0} (asks : List (CodeAsk A)) (answers : List (CodeAnswer A)) (ask : CodeAsk A) (answer : CodeAnswer A)
    → length answers < length asks → get_or asks (length answers) ask ≡ ask
    → steps_added (map ask_of asks) (map answer_of (answers ++ answer ∷ [])) ≡ steps_added (map ask_of asks) (map answer_of answers) ++ step_added (ask_of ask) (answer_of answer)
stepped_added asks answers ask answer within at =
    let told : List Answer = map answer_of answers in
    let long : length told ≡ length answers = length-map answers answer_of in
    let asked : length (map ask_of asks) ≡ length asks = length-map asks ask_of in
    let here : get_or (map ask_of asks) (length told) (ask_of ask) ≡ ask_of ask =
    ap (λ n. get_or (map ask_of asks) n (ask_of ask)) long ∙ get_or-map ask_of asks (length answers) ask (ask_of ask) within ∙ ap ask_of at in
    ap (steps_added (map ask_of asks)) (map-append answer_of answers (answer ∷ [])) ∙ one_more_added (map ask_of asks) told (ask_of ask) (answer_of answer) (omega (arith, within, long, asked)) here

-- and all of it, of a cache that hasn't all its blocks
pub stepped_on_images : {A D : Type 0} (g : Ghosts D) (run : Execution) (asks : List (CodeAsk A)) (answers : List (CodeAnswer A)) (ask : CodeAsk A) (answer : CodeAnswer A) (cache next : Contents) (flights more : Flights A)
    (old now later : D) → length answers < length asks → get_or asks (length answers) ask ≡ ask → IsSameDevice g old now → IsSameDevice g now later
    → HasRunOnImages g run (map ask_of asks) (map answer_of answers) cache flights old now
    → IsServedOnImages g (after_all run (map ask_of asks) (map answer_of answers)) (ask_of ask) (answer_of answer) next more now later
    → HasRunOnImages g run (map ask_of asks) (map answer_of (answers ++ answer ∷ [])) next more old later
stepped_on_images g run asks answers ask answer cache next flights more old now later within at same same_still so_far one =
    let before : Execution = after_all run (map ask_of asks) (map answer_of answers) in
    let r = stepped false run asks answers ask answer cache next flights more within at so_far.ran one.served.answered in record {
      ran = r.0;
      faults =
          let counts : CountsFaults (answer_of answer) (g.fault_count now) (g.fault_count later) = record { kept = same_still.faults; met = one.served.fault } in
          subst (λ all. CountFaults all (g.fault_count old) (g.fault_count later)) (sym (map-append answer_of answers (answer ∷ [])))
          (one_more_counted (map answer_of answers) (answer_of answer) _ _ _ so_far.faults counts);
      written = λ honest. stepped_written run asks answers ask answer _ _ _ within at (so_far.written honest) (one.served.written (same.honesty.0 honest));
      crash = λ honest left.
          let safe = so_far.crash honest left in
          subst (λ last. IsCrashSafe g run last old later) (sym r.1) (joined_ask g run before (ask_of ask) (answer_of answer) old now later safe (one.served.crash (same.honesty.0 honest) safe.left));
      images = subst (λ last. HoldImages last (g.contents later)) (sym r.1) one.images;
    }
