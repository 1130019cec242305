use Rattle.std.proofs.Common.{sym, ◌∙◌, ◌≡◌, ap, arith, subst, ℕ, List, Some}
use Rattle.std.specs.Prelude.{◌≢◌, count_by}
use Rattle.patch_links.specs.State.{Class, find}
use Rattle.patch_links.specs.Waiting.{is_unmet}
use Rattle.patch_links.specs.Adding.{AreFollowed, IsEnlisting}
use Rattle.patch_links.proofs.Rooms.{as-many}
use Rattle.patch_links.proofs.Newcomers.{linked-put, counted-put, newcomer-put, below-last, stands-last, put-last}
use Rattle.patch_links.proofs.adding.put_in.Goals as goal

pub insert_reserved-requires : goal.insert_reserved-requires
insert_reserved-requires g c =
    let name : c.class.inside.name ≡ c.args.class.name = ap (λ (z : Class). z.name) c.class.view_is in
    let block : c.class.inside.block ≡ c.args.class.block = ap (λ (z : Class). z.block) c.class.view_is in
    let after : c.after.result.now ≡ c.args.class.after = c.after.ensures in
    let follow = subst (λ (m : ℕ). AreFollowed c.args.keys.now.numbers m c.args.class.after c.args.nodes.now.slots c.follow_all-waits.new.nodes.slots) name
    (subst (λ (xs : List ℕ). AreFollowed c.args.keys.now.numbers c.class.inside.name xs c.args.nodes.now.slots c.follow_all-waits.new.nodes.slots) after c.follow_all-waits.ensures.followed) in
    let many = as-many c.args.keys.now.numbers c.args.class.name c.args.class.after c.args.nodes.now.slots c.follow_all-waits.new.nodes.slots follow in
    let capacity = c.follow_all-waits.ensures.capacity in
    let room = c.requires.nodes in
    omega (arith, many, capacity, room)

pub enlist-requires-clause-linked : goal.enlist-requires-clause-linked
enlist-requires-clause-linked g c =
    let name : c.class.inside.name ≡ c.args.class.name = ap (λ (z : Class). z.name) c.class.view_is in
    let block : c.class.inside.block ≡ c.args.class.block = ap (λ (z : Class). z.block) c.class.view_is in
    let after : c.after.result.now ≡ c.args.class.after = c.after.ensures in
    let follow = subst (λ (m : ℕ). AreFollowed c.args.keys.now.numbers m c.args.class.after c.args.nodes.now.slots c.follow_all-waits.new.nodes.slots) name
    (subst (λ (xs : List ℕ). AreFollowed c.args.keys.now.numbers c.class.inside.name xs c.args.nodes.now.slots c.follow_all-waits.new.nodes.slots) after c.follow_all-waits.ensures.followed) in
    let same : c.insert_reserved.result ≡ c.vacant_key-key.result = c.insert_reserved.ensures.key ∙ c.follow_all-waits.ensures.next ∙ sym c.vacant_key-key.ensures.value in
    let upd = rw same at c.insert_reserved.ensures.updates in
    let class : c.alone.result.class ≡ c.args.class = c.alone.ensures.class in
    let waits = c.alone.ensures.waits ∙ c.follow_all-waits.ensures.unmet
    ∙ ap (λ (b : ℕ). count_by (is_unmet c.args.nodes.now.slots c.args.keys.now.numbers c.vacant_key-key.result b) c.after.result.now) block
    ∙ ap (count_by (is_unmet c.args.nodes.now.slots c.args.keys.now.numbers c.vacant_key-key.result c.args.class.block)) after in
    let number = subst (λ (m : ℕ). find c.enter.new.keys.numbers m ≡ Some c.vacant_key-key.result) name c.enter.ensures.here in
    let rest = subst (λ (m : ℕ). (n : ℕ) → n ≢ m → find c.enter.new.keys.numbers n ≡ find c.args.keys.now.numbers n) name c.enter.ensures.others in
    linked-put c.args.nodes.now.slots c.follow_all-waits.new.nodes.slots c.insert_reserved.new.self.slots c.args.keys.now.numbers c.enter.new.keys.numbers c.args.blocks.now.items c.vacant_key-key.result c.args.class c.alone.result
    c.requires.stands c.requires.fresh c.requires.below follow c.vacant_key-key.ensures.vacant upd.changed upd.others class c.alone.ensures.ready c.alone.ensures.followers waits number rest

pub enlist-requires-clause-counted : goal.enlist-requires-clause-counted
enlist-requires-clause-counted g c =
    let name : c.class.inside.name ≡ c.args.class.name = ap (λ (z : Class). z.name) c.class.view_is in
    let block : c.class.inside.block ≡ c.args.class.block = ap (λ (z : Class). z.block) c.class.view_is in
    let after : c.after.result.now ≡ c.args.class.after = c.after.ensures in
    let follow = subst (λ (m : ℕ). AreFollowed c.args.keys.now.numbers m c.args.class.after c.args.nodes.now.slots c.follow_all-waits.new.nodes.slots) name
    (subst (λ (xs : List ℕ). AreFollowed c.args.keys.now.numbers c.class.inside.name xs c.args.nodes.now.slots c.follow_all-waits.new.nodes.slots) after c.follow_all-waits.ensures.followed) in
    let same : c.insert_reserved.result ≡ c.vacant_key-key.result = c.insert_reserved.ensures.key ∙ c.follow_all-waits.ensures.next ∙ sym c.vacant_key-key.ensures.value in
    let upd = rw same at c.insert_reserved.ensures.updates in
    let class : c.alone.result.class ≡ c.args.class = c.alone.ensures.class in
    let waits = c.alone.ensures.waits ∙ c.follow_all-waits.ensures.unmet
    ∙ ap (λ (b : ℕ). count_by (is_unmet c.args.nodes.now.slots c.args.keys.now.numbers c.vacant_key-key.result b) c.after.result.now) block
    ∙ ap (count_by (is_unmet c.args.nodes.now.slots c.args.keys.now.numbers c.vacant_key-key.result c.args.class.block)) after in
    let number = subst (λ (m : ℕ). find c.enter.new.keys.numbers m ≡ Some c.vacant_key-key.result) name c.enter.ensures.here in
    let rest = subst (λ (m : ℕ). (n : ℕ) → n ≢ m → find c.enter.new.keys.numbers n ≡ find c.args.keys.now.numbers n) name c.enter.ensures.others in
    counted-put c.args.nodes.now.slots c.follow_all-waits.new.nodes.slots c.insert_reserved.new.self.slots c.args.keys.now.numbers c.enter.new.keys.numbers c.args.blocks.now.items c.vacant_key-key.result c.args.class c.alone.result
    c.requires.stands c.requires.fresh c.requires.below follow c.vacant_key-key.ensures.vacant upd.changed upd.others class c.alone.ensures.ready c.alone.ensures.followers waits number rest

pub enlist-requires-clause-enlisting : goal.enlist-requires-clause-enlisting
enlist-requires-clause-enlisting g c =
    let name : c.class.inside.name ≡ c.args.class.name = ap (λ (z : Class). z.name) c.class.view_is in
    let block : c.class.inside.block ≡ c.args.class.block = ap (λ (z : Class). z.block) c.class.view_is in
    let after : c.after.result.now ≡ c.args.class.after = c.after.ensures in
    let follow = subst (λ (m : ℕ). AreFollowed c.args.keys.now.numbers m c.args.class.after c.args.nodes.now.slots c.follow_all-waits.new.nodes.slots) name
    (subst (λ (xs : List ℕ). AreFollowed c.args.keys.now.numbers c.class.inside.name xs c.args.nodes.now.slots c.follow_all-waits.new.nodes.slots) after c.follow_all-waits.ensures.followed) in
    let same : c.insert_reserved.result ≡ c.vacant_key-key.result = c.insert_reserved.ensures.key ∙ c.follow_all-waits.ensures.next ∙ sym c.vacant_key-key.ensures.value in
    let upd = rw same at c.insert_reserved.ensures.updates in
    let class : c.alone.result.class ≡ c.args.class = c.alone.ensures.class in
    let waits = c.alone.ensures.waits ∙ c.follow_all-waits.ensures.unmet
    ∙ ap (λ (b : ℕ). count_by (is_unmet c.args.nodes.now.slots c.args.keys.now.numbers c.vacant_key-key.result b) c.after.result.now) block
    ∙ ap (count_by (is_unmet c.args.nodes.now.slots c.args.keys.now.numbers c.vacant_key-key.result c.args.class.block)) after in
    let number = subst (λ (m : ℕ). find c.enter.new.keys.numbers m ≡ Some c.vacant_key-key.result) name c.enter.ensures.here in
    let rest = subst (λ (m : ℕ). (n : ℕ) → n ≢ m → find c.enter.new.keys.numbers n ≡ find c.args.keys.now.numbers n) name c.enter.ensures.others in
    subst (λ (b : ℕ). IsEnlisting b c.vacant_key-key.result c.insert_reserved.new.self.slots c.args.blocks.now.items) (sym block) (record {
      before = c.args.nodes.now.slots;
      listed = c.requires.stands.listed;
      settled = c.requires.stands.settled;
      newcomer = newcomer-put c.args.nodes.now.slots c.follow_all-waits.new.nodes.slots c.insert_reserved.new.self.slots c.args.keys.now.numbers c.enter.new.keys.numbers c.args.blocks.now.items c.vacant_key-key.result c.args.class c.alone.result
          c.requires.stands c.requires.fresh c.requires.below follow c.vacant_key-key.ensures.vacant upd.changed upd.others class c.alone.ensures.ready c.alone.ensures.followers waits number rest;
      room = c.requires.lists;
    })

pub returns-clause-put : goal.returns-clause-put
returns-clause-put g c =
    let name : c.class.inside.name ≡ c.args.class.name = ap (λ (z : Class). z.name) c.class.view_is in
    let block : c.class.inside.block ≡ c.args.class.block = ap (λ (z : Class). z.block) c.class.view_is in
    let after : c.after.result.now ≡ c.args.class.after = c.after.ensures in
    let follow = subst (λ (m : ℕ). AreFollowed c.args.keys.now.numbers m c.args.class.after c.args.nodes.now.slots c.follow_all-waits.new.nodes.slots) name
    (subst (λ (xs : List ℕ). AreFollowed c.args.keys.now.numbers c.class.inside.name xs c.args.nodes.now.slots c.follow_all-waits.new.nodes.slots) after c.follow_all-waits.ensures.followed) in
    let same : c.insert_reserved.result ≡ c.vacant_key-key.result = c.insert_reserved.ensures.key ∙ c.follow_all-waits.ensures.next ∙ sym c.vacant_key-key.ensures.value in
    let upd = rw same at c.insert_reserved.ensures.updates in
    let class : c.alone.result.class ≡ c.args.class = c.alone.ensures.class in
    let waits = c.alone.ensures.waits ∙ c.follow_all-waits.ensures.unmet
    ∙ ap (λ (b : ℕ). count_by (is_unmet c.args.nodes.now.slots c.args.keys.now.numbers c.vacant_key-key.result b) c.after.result.now) block
    ∙ ap (count_by (is_unmet c.args.nodes.now.slots c.args.keys.now.numbers c.vacant_key-key.result c.args.class.block)) after in
    let number = subst (λ (m : ℕ). find c.enter.new.keys.numbers m ≡ Some c.vacant_key-key.result) name c.enter.ensures.here in
    let rest = subst (λ (m : ℕ). (n : ℕ) → n ≢ m → find c.enter.new.keys.numbers n ≡ find c.args.keys.now.numbers n) name c.enter.ensures.others in
    put-last c.args.nodes.now.slots c.follow_all-waits.new.nodes.slots c.insert_reserved.new.self.slots c.args.keys.now.numbers c.enter.new.keys.numbers c.args.blocks.now.items c.vacant_key-key.result c.args.class c.alone.result
    c.requires.stands c.requires.fresh c.requires.below follow c.vacant_key-key.ensures.vacant upd.changed upd.others class c.alone.ensures.ready c.alone.ensures.followers waits number rest
    c.enlist.new.nodes.slots c.enlist.ensures.bare

pub returns-clause-stands : goal.returns-clause-stands
returns-clause-stands g c =
    let name : c.class.inside.name ≡ c.args.class.name = ap (λ (z : Class). z.name) c.class.view_is in
    let block : c.class.inside.block ≡ c.args.class.block = ap (λ (z : Class). z.block) c.class.view_is in
    let after : c.after.result.now ≡ c.args.class.after = c.after.ensures in
    let follow = subst (λ (m : ℕ). AreFollowed c.args.keys.now.numbers m c.args.class.after c.args.nodes.now.slots c.follow_all-waits.new.nodes.slots) name
    (subst (λ (xs : List ℕ). AreFollowed c.args.keys.now.numbers c.class.inside.name xs c.args.nodes.now.slots c.follow_all-waits.new.nodes.slots) after c.follow_all-waits.ensures.followed) in
    let same : c.insert_reserved.result ≡ c.vacant_key-key.result = c.insert_reserved.ensures.key ∙ c.follow_all-waits.ensures.next ∙ sym c.vacant_key-key.ensures.value in
    let upd = rw same at c.insert_reserved.ensures.updates in
    let class : c.alone.result.class ≡ c.args.class = c.alone.ensures.class in
    let waits = c.alone.ensures.waits ∙ c.follow_all-waits.ensures.unmet
    ∙ ap (λ (b : ℕ). count_by (is_unmet c.args.nodes.now.slots c.args.keys.now.numbers c.vacant_key-key.result b) c.after.result.now) block
    ∙ ap (count_by (is_unmet c.args.nodes.now.slots c.args.keys.now.numbers c.vacant_key-key.result c.args.class.block)) after in
    let number = subst (λ (m : ℕ). find c.enter.new.keys.numbers m ≡ Some c.vacant_key-key.result) name c.enter.ensures.here in
    let rest = subst (λ (m : ℕ). (n : ℕ) → n ≢ m → find c.enter.new.keys.numbers n ≡ find c.args.keys.now.numbers n) name c.enter.ensures.others in
    stands-last c.args.nodes.now.slots c.follow_all-waits.new.nodes.slots c.insert_reserved.new.self.slots c.args.keys.now.numbers c.enter.new.keys.numbers c.args.blocks.now.items c.vacant_key-key.result c.args.class c.alone.result
    c.requires.stands c.requires.fresh c.requires.below follow c.vacant_key-key.ensures.vacant upd.changed upd.others class c.alone.ensures.ready c.alone.ensures.followers waits number rest
    c.enlist.new.nodes.slots c.enlist.ensures.bare _ c.enlist.ensures.counted c.enlist.ensures.listed c.enlist.ensures.settled

pub returns-clause-below : goal.returns-clause-below
returns-clause-below g c =
    let name : c.class.inside.name ≡ c.args.class.name = ap (λ (z : Class). z.name) c.class.view_is in
    let block : c.class.inside.block ≡ c.args.class.block = ap (λ (z : Class). z.block) c.class.view_is in
    let after : c.after.result.now ≡ c.args.class.after = c.after.ensures in
    let follow = subst (λ (m : ℕ). AreFollowed c.args.keys.now.numbers m c.args.class.after c.args.nodes.now.slots c.follow_all-waits.new.nodes.slots) name
    (subst (λ (xs : List ℕ). AreFollowed c.args.keys.now.numbers c.class.inside.name xs c.args.nodes.now.slots c.follow_all-waits.new.nodes.slots) after c.follow_all-waits.ensures.followed) in
    let same : c.insert_reserved.result ≡ c.vacant_key-key.result = c.insert_reserved.ensures.key ∙ c.follow_all-waits.ensures.next ∙ sym c.vacant_key-key.ensures.value in
    let upd = rw same at c.insert_reserved.ensures.updates in
    let class : c.alone.result.class ≡ c.args.class = c.alone.ensures.class in
    let waits = c.alone.ensures.waits ∙ c.follow_all-waits.ensures.unmet
    ∙ ap (λ (b : ℕ). count_by (is_unmet c.args.nodes.now.slots c.args.keys.now.numbers c.vacant_key-key.result b) c.after.result.now) block
    ∙ ap (count_by (is_unmet c.args.nodes.now.slots c.args.keys.now.numbers c.vacant_key-key.result c.args.class.block)) after in
    let number = subst (λ (m : ℕ). find c.enter.new.keys.numbers m ≡ Some c.vacant_key-key.result) name c.enter.ensures.here in
    let rest = subst (λ (m : ℕ). (n : ℕ) → n ≢ m → find c.enter.new.keys.numbers n ≡ find c.args.keys.now.numbers n) name c.enter.ensures.others in
    below-last c.args.nodes.now.slots c.follow_all-waits.new.nodes.slots c.insert_reserved.new.self.slots c.args.keys.now.numbers c.enter.new.keys.numbers c.args.blocks.now.items c.vacant_key-key.result c.args.class c.alone.result
    c.requires.stands c.requires.fresh c.requires.below follow c.vacant_key-key.ensures.vacant upd.changed upd.others class c.alone.ensures.ready c.alone.ensures.followers waits number rest
    c.enlist.new.nodes.slots c.enlist.ensures.bare
