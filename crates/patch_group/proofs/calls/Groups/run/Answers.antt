use Rattle.std.proofs.Common.{◌≡◌, true, ◌∙◌, ◌<◌, ◌++◌, ◌∷◌, [], length, map, get_or, append_assoc, append-nil, ◌+◌, sym, ap, arith}
use Rattle.std.proofs.lemmas.List.{length-append, map-append}
use Rattle.patch_device.specs.SameDevice.{same_still, same_both}
use Rattle.patch_group.specs.Asks.{parts, part_of, steps_of, groups_after, groups_after_all}
use Rattle.patch_group.specs.Runs.{asks_of, group_ask_of, group_answer_of}
use Rattle.patch_group.proofs.Keeping.{has_room}
use Rattle.patch_group.proofs.Passing.{parts_none, groups_none, steps_append, next_code, begun_run, begun_on_images, stepped_run, stepped_on_images, fewer_answered, all_answered}
use Rattle.patch_group.proofs.calls.Groups.run.Goals as goal

pub loop-ask-init : goal.loop-ask-init
loop-ask-init g c =
    let asks = asks_of c.args.asks.now in
    let old = c.args.self.now in
    let none : c.new-answers.result.items ≡ [] = c.new-answers.ensures.items in
    record {
      many = ap length none;
      device = same_still g.D.Device _;
      groups = rw none (sym (groups_none old asks));
      trace = rw none (sym (ap (λ ps. c.args.cache.now.trace ++ steps_of ps) (parts_none old asks) ∙ append-nil c.args.cache.now.trace));
      ran = λ run r. rw none (begun_run g.D.Device true run old asks _ _ _ r);
      ran_paged = λ run r. rw none (begun_on_images g.D.Device run old asks _ _ _ r);
    }

pub loop-ask-preserved : goal.loop-ask-preserved
loop-ask-preserved g c =
    let before = c.loop-ask.invariant in
    let asks = c.args.asks.now in
    let answers = c.loop-ask.answers.items in
    let answer = c.answer_lent-answer.result in
    let told = c.answer_lent-answer.ensures in
    let old = c.args.self.now in
    let mid = c.loop-ask.self in
    let given = map group_answer_of answers in
    let at : length answers ≡ c.loop-ask.ask-index = before.many in
    let pushed : c.push_reserved.new.self.items ≡ answers ++ answer ∷ [] = c.push_reserved.ensures.items ∙ ap (λ xs. xs ++ answer ∷ []) c.reserve.ensures.items in
    let is : map group_answer_of c.push_reserved.new.self.items ≡ given ++ group_answer_of answer ∷ [] = ap (map group_answer_of) pushed ∙ map-append group_answer_of answers (answer ∷ []) in
    let within : length answers < length asks = omega (arith, at, c.loop-ask-test.true) in
    let item = ap (λ n. get_or asks n c.ask-item.result) at ∙ sym c.ask-item.is in
    let turns = next_code old asks answers c.ask-item.result answer within item in
    let wanted = group_ask_of c.ask-item.result in
    let done : parts old (asks_of asks) (map group_answer_of c.push_reserved.new.self.items) ≡ parts old (asks_of asks) given ++ part_of mid wanted (group_answer_of answer) =
    ap (λ xs. parts old (asks_of asks) xs) is ∙ turns.parts_are ∙ ap (λ s. parts old (asks_of asks) given ++ part_of s wanted (group_answer_of answer)) (sym before.groups) in
    record {
      many = ap length pushed ∙ length-append answers (answer ∷ []) ∙ ap (λ n. n + 1) at;
      device = same_both g.D.Device _ _ _ before.device told.device;
      groups = told.groups ∙ ap (λ s. groups_after s wanted (group_answer_of answer)) before.groups ∙ sym (ap (λ xs. groups_after_all old (asks_of asks) xs) is ∙ turns.groups_are);
      trace =
          told.trace ∙ ap (λ s. s ++ steps_of (part_of mid wanted (group_answer_of answer))) before.trace ∙ append_assoc c.args.cache.now.trace (steps_of (parts old (asks_of asks) given)) _
          ∙ ap (λ s. c.args.cache.now.trace ++ s) (sym (ap steps_of done ∙ steps_append (parts old (asks_of asks) given) (part_of mid wanted (group_answer_of answer))));
      ran = λ run r.
          let so_far = before.ran run r in
          rw pushed (stepped_run g.D.Device c.crashes_join.ensures.joined true run old asks answers c.ask-item.result answer _ _ _ _ mid _ _ _ _ within item before.groups before.device.honesty.0 so_far (told.answer _ so_far.passed.stands));
      ran_paged = λ run r.
          let so_far = before.ran_paged run r in
          rw pushed (stepped_on_images g.D.Device c.crashes_join.ensures.joined run old asks answers c.ask-item.result answer _ _ _ _ mid _ _ _ _ within item before.groups before.device.honesty.0 so_far
          (told.paged _ (record { runs = so_far.ran.passed.stands; honest = before.device.honesty.0 r.honest; images = so_far.images })));
    }

pub returns-in-Err-clause-ran : goal.returns-in-Err-clause-ran
returns-in-Err-clause-ran g c run r = rw c.reserve.ensures.items (c.loop-ask.invariant.ran run r)

pub returns-in-Err-clause-ran_paged : goal.returns-in-Err-clause-ran_paged
returns-in-Err-clause-ran_paged g c run r = rw c.reserve.ensures.items (c.loop-ask.invariant.ran_paged run r)

pub returns-clause-ran_paged : goal.returns-clause-ran_paged
returns-clause-ran_paged g c = c.loop-ask.invariant.ran_paged

pub returns-in-Err-clause-groups : goal.returns-in-Err-clause-groups
returns-in-Err-clause-groups g c = rw c.reserve.ensures.items c.loop-ask.invariant.groups

pub returns-in-Err-clause-trace : goal.returns-in-Err-clause-trace
returns-in-Err-clause-trace g c = rw c.reserve.ensures.items c.loop-ask.invariant.trace

pub returns-in-Err-clause-taking_back : goal.returns-in-Err-clause-taking_back
returns-in-Err-clause-taking_back g c = c.promise.ensures.taking_back

pub returns-in-Err-clause-moves : goal.returns-in-Err-clause-moves
returns-in-Err-clause-moves g c = c.promise.ensures.moves

pub returns-in-Err-clause-looks : goal.returns-in-Err-clause-looks
returns-in-Err-clause-looks g c = c.promise.ensures.looks

pub returns-in-Err-clause-images : goal.returns-in-Err-clause-images
returns-in-Err-clause-images g c = c.promise.ensures.images

pub returns-in-Err-clause-closed : goal.returns-in-Err-clause-closed
returns-in-Err-clause-closed g c = c.promise.ensures.closed

pub returns-in-Err-clause-order : goal.returns-in-Err-clause-order
returns-in-Err-clause-order g c = c.promise.ensures.order

pub returns-in-Err-clause-in_order : goal.returns-in-Err-clause-in_order
returns-in-Err-clause-in_order g c = c.promise.ensures.in_order

pub returns-clause-taking_back : goal.returns-clause-taking_back
returns-clause-taking_back g c = c.promise.ensures.taking_back

pub returns-clause-moves : goal.returns-clause-moves
returns-clause-moves g c = c.promise.ensures.moves

pub returns-clause-looks : goal.returns-clause-looks
returns-clause-looks g c = c.promise.ensures.looks

pub returns-clause-images : goal.returns-clause-images
returns-clause-images g c = c.promise.ensures.images

pub returns-clause-closed : goal.returns-clause-closed
returns-clause-closed g c = c.promise.ensures.closed

pub returns-clause-order : goal.returns-clause-order
returns-clause-order g c = c.promise.ensures.order

pub returns-clause-in_order : goal.returns-clause-in_order
returns-clause-in_order g c = c.promise.ensures.in_order

pub returns-in-Err-clause-all : goal.returns-in-Err-clause-all
returns-in-Err-clause-all g c = tt

pub returns-in-Err-clause-stopped : goal.returns-in-Err-clause-stopped
returns-in-Err-clause-stopped g c = fewer_answered group_answer_of _ _ c.args.asks.now c.loop-ask.ask-index c.reserve.ensures.items c.loop-ask.invariant.many c.loop-ask-test.true

pub returns-in-Err-clause-device : goal.returns-in-Err-clause-device
returns-in-Err-clause-device g c = c.loop-ask.invariant.device

pub push_reserved-requires : goal.push_reserved-requires
push_reserved-requires g c = has_room _ _ c.in_default.ensures.ok

pub returns-clause-ran : goal.returns-clause-ran
returns-clause-ran g c = c.loop-ask.invariant.ran

pub returns-clause-groups : goal.returns-clause-groups
returns-clause-groups g c = c.loop-ask.invariant.groups

pub returns-clause-trace : goal.returns-clause-trace
returns-clause-trace g c = c.loop-ask.invariant.trace

pub returns-clause-all : goal.returns-clause-all
returns-clause-all g c = all_answered group_answer_of c.loop-ask.answers.items c.args.asks.now c.loop-ask.ask-index c.loop-ask.invariant.many c.loop-ask-test.false c.loop-ask.auto.ask-index-end

pub returns-clause-stopped : goal.returns-clause-stopped
returns-clause-stopped g c = tt

pub returns-clause-device : goal.returns-clause-device
returns-clause-device g c = c.loop-ask.invariant.device
