use Rattle.std.proofs.Common.{◌≡◌, ◌∙◌, true, ◌<◌, ◌++◌, ◌∷◌, [], length, map, get_or, append_assoc, ◌+◌, refl, sym, ap, subst, arith}
use Rattle.std.proofs.lemmas.List.{length-append, length-map, map-append, append-nil}
use Rattle.patch_model.specs.Execution.{Execution}
use Rattle.patch_device.specs.SameDevice.{same_still, same_both}
use Rattle.patch_cache.specs.Asks.{ask_of, answer_of, after_all, step_added, steps_added}
use Rattle.patch_cache.specs.Running.{HasRun, RunsOn, CountsFaults, CountFaults, IsCrashSafe, HaveWritten}
use Rattle.patch_cache.specs.Bringing.{HasRunOnImages}
use Rattle.patch_cache.proofs.Asking.{after_none, all_first, one_more_counted}
use Rattle.patch_cache.proofs.Crashing.{unmoved, joined_ask}
use Rattle.patch_cache.proofs.Runs.{begun, none_answered, stepped, stepped_added, stepped_written, stepped_on_images}
use Rattle.patch_cache.proofs.caches.Cache.run.Goals as goal

pub loop-ask-init : goal.loop-ask-init
loop-ask-init g c =
    let device = g.D.Device in
    let asks = map ask_of c.args.asks.now in
    let none : c.new-answers.result.items ≡ [] = c.new-answers.ensures.items in
    record {
      many = ap length none;
      device = same_still device c.args.device.now;
      so_far = λ run on. rw none (begun true run asks _ _ on.runs);
      paged = λ run on.
          subst (λ xs. HasRunOnImages device run asks (map answer_of xs) c.args.self.now c.args.flights.now c.args.device.now c.args.device.now) (sym none)
          (none_answered device run asks c.args.self.now c.args.flights.now c.args.device.now on);
      fault = λ run on. rw none refl;
      trace = rw none (sym (append-nil c.args.self.now.trace ∙ refl));
      written = λ run on honest. rw none refl;
      crash = λ run on honest left.
          rw none (subst (λ now. IsCrashSafe device run now c.args.device.now c.args.device.now) (sym (after_none run asks)) (unmoved device run c.args.device.now left));
    }

pub loop-ask-preserved : goal.loop-ask-preserved
loop-ask-preserved g c =
    let device = g.D.Device in
    let before = c.loop-ask.invariant in
    let asks = c.args.asks.now in
    let answers = c.loop-ask.answers.items in
    let answer = c.answer-answer.result in
    let old = c.args.device.now in
    let now = c.loop-ask.device in
    let next = c.answer-answer.new.device in
    let told = c.answer-answer.ensures in
    let at : length answers ≡ c.loop-ask.ask-index = before.many in
    let pushed : c.push_reserved.new.self.items ≡ answers ++ answer ∷ [] = c.push_reserved.ensures.items ∙ ap (λ xs. xs ++ answer ∷ []) c.reserve.ensures.items in
    let within : length answers < length asks = omega (arith, at, c.loop-ask-test.true) in
    let item = ap (λ n. get_or asks n c.ask-item.result) at ∙ sym c.ask-item.is in
    let so_far : Execution → Execution = λ run. after_all run (map ask_of asks) (map answer_of answers) in
    let served = λ (run : Execution) (on : RunsOn device c.args.self.now c.args.flights.now old run). told.served (so_far run) (record {
      runs = (before.so_far run on).runs;
      blocks = before.device.count ∙ on.blocks ∙ ap length (sym (all_first run (map ask_of asks) (map answer_of answers)));
    }) in
    record {
      many = ap length pushed ∙ length-append answers (answer ∷ []) ∙ ap (λ n. n + 1) at;
      device = same_both device old now next before.device told.device;
      so_far = λ run on.
          rw pushed (stepped true run asks answers c.ask-item.result answer _ _ _ _ within item (before.so_far run on) (served run on).answered).0;
      paged = λ run on.
          let so_far_paged = before.paged run on in
          let served_paged = told.paged (so_far run) (record {
            on = record {
              runs = so_far_paged.ran.runs;
              blocks = before.device.count ∙ on.on.blocks ∙ ap length (sym (all_first run (map ask_of asks) (map answer_of answers)));
            };
            honest = before.device.honesty.0 on.honest;
            images = so_far_paged.images;
          }) in
          subst (λ xs. HasRunOnImages device run (map ask_of asks) (map answer_of xs) c.answer-answer.new.self c.answer-answer.new.flights old next) (sym pushed)
          (stepped_on_images device run asks answers c.ask-item.result answer _ _ _ _ old now next within item before.device told.device so_far_paged served_paged);
      fault = λ run on.
          let one : CountsFaults (answer_of answer) (device.fault_count now) (device.fault_count next) = record { kept = told.device.faults; met = (served run on).fault } in
          subst (λ all. CountFaults all (device.fault_count old) (device.fault_count next)) (sym (ap (map answer_of) pushed ∙ map-append answer_of answers (answer ∷ [])))
          (one_more_counted (map answer_of answers) (answer_of answer) _ _ _ (before.fault run on) one);
      trace =
          let steps = steps_added (map ask_of asks) (map answer_of answers) in
          let added = stepped_added asks answers c.ask-item.result answer within item in
          told.trace ∙ ap (λ s. s ++ step_added (ask_of c.ask-item.result) (answer_of answer)) before.trace ∙ append_assoc c.args.self.now.trace steps _
          ∙ ap (λ s. c.args.self.now.trace ++ s) (sym added ∙ sym (ap (λ xs. steps_added (map ask_of asks) (map answer_of xs)) pushed));
      written = λ run on honest.
          rw pushed (stepped_written run asks answers c.ask-item.result answer _ _ _ within item (before.written run on honest)
          ((served run on).written (before.device.honesty.0 honest)));
      crash = λ run on honest left.
          let goes = (stepped true run asks answers c.ask-item.result answer _ _ _ _ within item (before.so_far run on) (served run on).answered).1 in
          let safe = before.crash run on honest left in
          let one = (served run on).crash (before.device.honesty.0 honest) safe.left in
          rw pushed (subst (λ last. IsCrashSafe device run last old next) (sym goes)
          (joined_ask device run (so_far run) (ask_of c.ask-item.result) (answer_of answer) old now next safe one));
    }

pub returns-in-Err-clause-fault : goal.returns-in-Err-clause-fault
returns-in-Err-clause-fault g c run on =
    let device = g.D.Device in
    subst (λ xs. CountFaults (map answer_of xs) (device.fault_count c.args.device.now) (device.fault_count c.loop-ask.device)) (sym c.reserve.ensures.items) (c.loop-ask.invariant.fault run on)

pub returns-in-Err-clause-crash : goal.returns-in-Err-clause-crash
returns-in-Err-clause-crash g c run on honest left = rw c.reserve.ensures.items (c.loop-ask.invariant.crash run on honest left)

pub returns-in-Err-clause-written : goal.returns-in-Err-clause-written
returns-in-Err-clause-written g c run on honest =
    let device = g.D.Device in
    subst (λ answers. HaveWritten run (map ask_of c.args.asks.now) (map answer_of answers) (device.contents c.args.device.now) (device.contents c.loop-ask.device)) (sym c.reserve.ensures.items)
    (c.loop-ask.invariant.written run on honest)

pub returns-in-Err-clause-stopped : goal.returns-in-Err-clause-stopped
returns-in-Err-clause-stopped g c =
    let long : length (map answer_of c.reserve.new.self.items) ≡ c.loop-ask.ask-index = length-map c.reserve.new.self.items answer_of ∙ ap length c.reserve.ensures.items ∙ c.loop-ask.invariant.many in
    omega (arith, long, c.loop-ask-test.true)

pub returns-clause-all : goal.returns-clause-all
returns-clause-all g c =
    let long : length (map answer_of c.loop-ask.answers.items) ≡ c.loop-ask.ask-index = length-map c.loop-ask.answers.items answer_of ∙ c.loop-ask.invariant.many in
    omega (arith, long, c.loop-ask-test.false, c.loop-ask.auto.ask-index-end)

pub returns-in-Err-clause-answers : goal.returns-in-Err-clause-answers
returns-in-Err-clause-answers g c run on =
    subst (λ xs. HasRun run (map ask_of c.args.asks.now) (map answer_of xs) c.loop-ask.self c.loop-ask.flights) (sym c.reserve.ensures.items) (c.loop-ask.invariant.so_far run on)

pub returns-in-Err-clause-paged : goal.returns-in-Err-clause-paged
returns-in-Err-clause-paged g c run on =
    subst (λ xs. HasRunOnImages g.D.Device run (map ask_of c.args.asks.now) (map answer_of xs) c.loop-ask.self c.loop-ask.flights c.args.device.now c.loop-ask.device) (sym c.reserve.ensures.items)
    (c.loop-ask.invariant.paged run on)

pub returns-in-Err-clause-taking_back : goal.returns-in-Err-clause-taking_back
returns-in-Err-clause-taking_back g c = c.promise.ensures.taking_back

pub returns-in-Err-clause-moves : goal.returns-in-Err-clause-moves
returns-in-Err-clause-moves g c = c.promise.ensures.moves

pub returns-in-Err-clause-looks : goal.returns-in-Err-clause-looks
returns-in-Err-clause-looks g c = c.promise.ensures.looks

pub returns-in-Err-clause-images : goal.returns-in-Err-clause-images
returns-in-Err-clause-images g c = c.promise.ensures.images

pub returns-in-Err-clause-closed : goal.returns-in-Err-clause-closed
returns-in-Err-clause-closed g c = c.promise.ensures.crashes

pub returns-clause-taking_back : goal.returns-clause-taking_back
returns-clause-taking_back g c = c.promise.ensures.taking_back

pub returns-clause-moves : goal.returns-clause-moves
returns-clause-moves g c = c.promise.ensures.moves

pub returns-clause-looks : goal.returns-clause-looks
returns-clause-looks g c = c.promise.ensures.looks

pub returns-clause-images : goal.returns-clause-images
returns-clause-images g c = c.promise.ensures.images

pub returns-clause-closed : goal.returns-clause-closed
returns-clause-closed g c = c.promise.ensures.crashes
