-- A block's lists once two of its classes are one.
use Rattle.std.proofs.Common.{◌≡◌, ℕ, ◌+◌, ◌<◌, ◌∙◌, arith, Bool, true, false, ◌++◌, length, sym, ap, take, drop}
use Rattle.std.specs.Prelude.{◌-◌, ◌==◌, not, filter}
use Rattle.std.proofs.lemmas.Bool.{and_from}
use Rattle.patch_model.specs.Member.{In}
use Rattle.patch_links.specs.State.{Nodes, is_at}
use Rattle.patch_links.specs.Waiting.{ready_in, is_due}
use Rattle.patch_links.specs.Lists.{OfBlock, times, once, IsListed, pushed}
use Rattle.patch_links.specs.Joining.{IsRelisting, is_neither}
use Rattle.patch_links.proofs.Counts.{count-zero}
use Rattle.patch_links.proofs.JoinedLists.{without_both, listed-waiting, listed-come, listed-ready, room-left}
use Rattle.patch_links.proofs.Orders.{ready-one, ready-alike}
use Rattle.patch_links.proofs.Swaps.{filter-behind}

module _ (block keep gone : ℕ) (ready : Bool) (nodes : Nodes) (of now : OfBlock) (r : IsRelisting block keep gone ready nodes of) where
  one-is : r.pair.one.ready ≡ ready
  one-is = sym (ready-one block keep gone r.before r.pair) ∙ sym r.flag

  other-is : r.pair.other.ready ≡ ready
  other-is = ready-alike block keep gone r.before r.pair r.level ∙ one-is

  -- a class of the ready set stands among the first keys
  pub relisted-some : ready ≡ true → 0 < times (take of.done of.ready) gone
  relisted-some on =
      let a = r.listed.ready gone in
      let one : once (is_at (ready_in block) r.before gone) ≡ 1 = ap once (sym r.level ∙ sym r.flag ∙ on) in omega arith

  pub relisted-ready : ready ≡ true → ((k : ℕ) → times now.ready k + once (gone == k) ≡ times of.ready k) → now ≡ record of { ready = now.ready; done = length now.ready; count = of.count - 1 } → IsListed block nodes now
  relisted-ready on less rest =
      let p = r.pair in
      listed-ready block keep gone p.one p.other r.before nodes r.numbers p.apart p.at_keep p.at_gone (r.joined p.one p.other p.at_keep p.at_gone) p.may p.of (one-is ∙ on) (other-is ∙ on)
      of r.listed (r.settled (sym r.flag ∙ on)) now less rest

  module _ (off : ready ≡ false) (is : now.ready ≡ take of.done of.ready ++ filter (is_neither keep gone) (drop of.done of.ready)) (rest : now ≡ record of { ready = now.ready; count = of.count - 1 }) where
    out-keep : is_at (ready_in block) r.before keep ≡ false
    out-keep = sym r.flag ∙ off

    -- neither stands among the keys of the ready set
    passes : (k : ℕ) → In (take of.done of.ready) k → is_neither keep gone k ≡ true
    passes k i = and_from _ _ (ap not (count-zero (λ j. j == keep) (take of.done of.ready) k (r.listed.ready keep ∙ ap once out-keep) i))
        (ap not (count-zero (λ j. j == gone) (take of.done of.ready) k (r.listed.ready gone ∙ ap once (sym r.level ∙ out-keep)) i))

    same : now ≡ without_both keep gone of
    same = rest ∙ ap (λ xs. record of { ready = xs; count = of.count - 1 }) (is ∙ filter-behind (is_neither keep gone) of.ready of.done passes)

    pub relisted-waiting : is_at is_due nodes keep ≡ false → IsListed block nodes now
    relisted-waiting u =
        let p = r.pair in
        rw same (listed-waiting block keep gone p.one p.other r.before nodes r.numbers p.apart p.at_keep p.at_gone (r.joined p.one p.other p.at_keep p.at_gone) p.may p.of (one-is ∙ off) (other-is ∙ off)
        of r.listed u)

    pub relisted-come : is_at is_due nodes keep ≡ true → IsListed block nodes (pushed now keep)
    relisted-come u =
        let p = r.pair in
        rw same (listed-come block keep gone p.one p.other r.before nodes r.numbers p.apart p.at_keep p.at_gone (r.joined p.one p.other p.at_keep p.at_gone) p.may p.of (one-is ∙ off) (other-is ∙ off)
        of r.listed u)

    pub relisted-room : is_at is_due nodes keep ≡ true → length now.ready < now.room_ready
    relisted-room u =
        let p = r.pair in
        rw same (room-left block keep gone p.one p.other r.before nodes r.numbers p.apart p.at_keep p.at_gone (r.joined p.one p.other p.at_keep p.at_gone) p.may p.of (one-is ∙ off) (other-is ∙ off)
        of r.listed u)
