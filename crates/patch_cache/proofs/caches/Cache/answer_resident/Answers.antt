use Rattle.std.proofs.Common.{◌≡◌, refl, sym, ap, subst}
use Rattle.patch_cache.specs.Asks.{Create, Merge, Send, View, ask_of, answer_of, block_named, is_complete}
use Rattle.patch_cache.specs.Running.{RunsBy, IsServedBy}
use Rattle.patch_cache.proofs.Faultless.{view_faultless}
use Rattle.patch_cache.proofs.Plain.{create_held, merge_held, view_kept}
use Rattle.patch_cache.proofs.Serving.{served_aside}
use Rattle.patch_cache.proofs.Answering.{right_or_given_up}
use Rattle.patch_cache.specs.Bringing.{HasNamed}
use Rattle.patch_device.specs.SameDevice.{same_still}
use Rattle.patch_cache.proofs.caches.Cache.answer_resident.Goals as goal

pub returns-in-Create-clause-served : goal.returns-in-Create-clause-served
returns-in-Create-clause-served g c whole run on =
    let i = c.in-Create in
    let device = c.args.device.now in
    let ask = Create i.block i.start c.as_slice.result.now c.as_slice-in-Create.result.now i.undo in
    let answer = answer_of c.answer_create.result in
    let same : ask_of c.args.ask.now ≡ ask = rw (c.as_slice.ensures, c.as_slice-in-Create.ensures) (ap ask_of i.is) in
    let done = c.answer_create.ensures.answer whole run on.runs.cache_is in
    subst (λ a. IsServedBy g.D.Device whole run a answer c.answer_create.new.self c.args.flights.now device device) (sym same)
    (served_aside c.disks_stay.ensures g.D.Device whole run ask answer c.answer_create.new.self c.args.flights.now device refl on.runs.cache_is.legal c.answer_create.ensures.no_fault (record {
      right = right_or_given_up whole run ask answer done.right;
      runs = record {
        cache_is = done.cache_is;
        flights_are = create_held c.steps_extend.ensures.state c.flights_are_ready.ensures.made c.images_stay.ensures run i.block i.start c.as_slice.result.now c.as_slice-in-Create.result.now
            i.undo answer _ on.runs.flights_are;
      };
    }))

pub returns-in-Merge-clause-served : goal.returns-in-Merge-clause-served
returns-in-Merge-clause-served g c whole run on =
    let i = c.in-Merge in
    let device = c.args.device.now in
    let answer = answer_of c.answer_merge.result in
    let same : ask_of c.args.ask.now ≡ Merge i.a i.b = ap ask_of i.is in
    let done = c.answer_merge.ensures.answer whole run on.runs.cache_is in
    subst (λ a. IsServedBy g.D.Device whole run a answer c.answer_merge.new.self c.args.flights.now device device) (sym same)
    (served_aside c.disks_stay.ensures g.D.Device whole run (Merge i.a i.b) answer c.answer_merge.new.self c.args.flights.now device refl on.runs.cache_is.legal c.answer_merge.ensures.no_fault (record {
      right = right_or_given_up whole run (Merge i.a i.b) answer done.right;
      runs = record {
        cache_is = done.cache_is;
        flights_are = merge_held c.steps_extend.ensures.state c.flights_are_ready.ensures.merged c.images_stay.ensures run i.a i.b answer _ on.runs.flights_are;
      };
    }))

pub returns-in-Send-clause-served : goal.returns-in-Send-clause-served
returns-in-Send-clause-served g c whole run on =
    let i = c.in-Send in
    let device = c.args.device.now in
    let answer = answer_of c.answer_send.result in
    let same : ask_of c.args.ask.now ≡ Send i.block = ap ask_of i.is in
    subst (λ a. IsServedBy g.D.Device whole run a answer c.answer_send.new.self c.answer_send.new.flights device device) (sym same)
    (served_aside c.disks_stay.ensures g.D.Device whole run (Send i.block) answer c.answer_send.new.self c.answer_send.new.flights device refl on.runs.cache_is.legal c.answer_send.ensures.no_fault
    (c.answer_send.ensures.answer whole run on.runs))

pub returns-in-View-clause-served : goal.returns-in-View-clause-served
returns-in-View-clause-served g c whole run on =
    let i = c.in-View in
    let device = c.args.device.now in
    let moves = c.as_slice-in-View.result.now in
    let ask = View i.block moves i.start i.len in
    let answer = answer_of c.look.result in
    let same : ask_of c.args.ask.now ≡ ask = rw c.as_slice-in-View.ensures (ap ask_of i.is) in
    let right = c.look.ensures.answer whole run on.runs.cache_is in
    subst (λ a. IsServedBy g.D.Device whole run a answer c.look.new.self c.args.flights.now device device) (sym same)
    (served_aside c.disks_stay.ensures g.D.Device whole run ask answer c.look.new.self c.args.flights.now device refl on.runs.cache_is.legal
    (view_faultless run i.block moves i.start i.len answer right) (record {
      right = right_or_given_up whole run ask answer right;
      runs = view_kept (λ r. RunsBy whole c.look.new.self c.args.flights.now r) run i.block moves i.start i.len answer (record { cache_is = c.look.ensures.restored whole run on.runs.cache_is; flights_are = on.runs.flights_are });
    }))

pub returns-in-View-clause-of_completion : goal.returns-in-View-clause-of_completion
returns-in-View-clause-of_completion g c whole run r fault =
    let i = c.in-View in
    absurd (view_faultless run i.block c.as_slice-in-View.result.now i.start i.len (answer_of c.look.result) (c.look.ensures.answer whole run r.cache_is) fault)

pub returns-in-Create-clause-of_completion : goal.returns-in-Create-clause-of_completion
returns-in-Create-clause-of_completion g c = λ whole run runs fault. absurd (c.answer_create.ensures.no_fault fault)

pub returns-in-Create-clause-device : goal.returns-in-Create-clause-device
returns-in-Create-clause-device g c = same_still g.D.Device c.args.device.now

pub returns-in-Merge-clause-of_completion : goal.returns-in-Merge-clause-of_completion
returns-in-Merge-clause-of_completion g c = λ whole run runs fault. absurd (c.answer_merge.ensures.no_fault fault)

pub returns-in-Merge-clause-device : goal.returns-in-Merge-clause-device
returns-in-Merge-clause-device g c = same_still g.D.Device c.args.device.now

pub returns-in-Send-clause-of_completion : goal.returns-in-Send-clause-of_completion
returns-in-Send-clause-of_completion g c = λ whole run runs fault. absurd (c.answer_send.ensures.no_fault fault)

pub returns-in-Send-clause-device : goal.returns-in-Send-clause-device
returns-in-Send-clause-device g c = same_still g.D.Device c.args.device.now

pub returns-in-View-clause-device : goal.returns-in-View-clause-device
returns-in-View-clause-device g c = same_still g.D.Device c.args.device.now

pub returns-in-Complete-clause-device : goal.returns-in-Complete-clause-device
returns-in-Complete-clause-device g c = c.answer_complete.ensures.device

pub returns-in-Complete-clause-of_completion : goal.returns-in-Complete-clause-of_completion
returns-in-Complete-clause-of_completion g c = λ whole run runs fault. ap (λ a. is_complete (ask_of a)) c.in-Complete.is

pub returns-in-Complete-clause-served : goal.returns-in-Complete-clause-served
returns-in-Complete-clause-served g c whole run on =
    let answer = answer_of c.answer_complete.result in
    subst (λ a. IsServedBy g.D.Device whole run a answer c.answer_complete.new.self c.answer_complete.new.flights c.args.device.now c.answer_complete.new.device) (sym (ap ask_of c.in-Complete.is))
    (c.answer_complete.ensures.served whole run on)

pub answer_create-requires : goal.answer_create-requires
answer_create-requires g c =
    let i = c.in-Create in
    let same : ask_of c.args.ask.now ≡ Create i.block i.start c.as_slice.result.now c.as_slice-in-Create.result.now i.undo = rw (c.as_slice.ensures, c.as_slice-in-Create.ensures) (ap ask_of i.is) in
    subst (λ a. HasNamed c.args.self.now (block_named a)) same c.requires.named

pub answer_send-requires : goal.answer_send-requires
answer_send-requires g c =
    let same : ask_of c.args.ask.now ≡ Send c.in-Send.block = ap ask_of c.in-Send.is in subst (λ a. HasNamed c.args.self.now (block_named a)) same c.requires.named

pub look-requires : goal.look-requires
look-requires g c =
    let i = c.in-View in
    let same : ask_of c.args.ask.now ≡ View i.block c.as_slice-in-View.result.now i.start i.len = rw c.as_slice-in-View.ensures (ap ask_of i.is) in
    subst (λ a. HasNamed c.args.self.now (block_named a)) same c.requires.named
