use Rattle.std.proofs.Common.{◌≡◌, ℕ, ◌+◌, ◌∙◌, ◌++◌, ◌∷◌, [], List, ap, sym, subst, arith}
use Rattle.patch_history.specs.History.{ledger_of}
use Rattle.patch_recovery.specs.Ledger.{map_of}
use Rattle.patch_index.specs.Index.{key_of}
use Rattle.patch_index.specs.Keys.{IsNext, NoneFrom}
use Rattle.patch_index.specs.Reporting.{reported}
use Rattle.patch_store.specs.Checking.{entries_of}
use Rattle.patch_store.specs.declared.totals.Totals.{Totals}
use Rattle.patch_listing.proofs.Listed.{HasWritten, single_so, nothing_yet, one_more, none_next, ended_none, ended_all}
use Rattle.patch_listing.proofs.listing.write_keys.Goals as goal

pub loop-seen-init : goal.loop-seen-init
loop-seen-init g c h stands =
    let old = g.W.Write.contents c.args.writer.now.inner in
    subst (λ from. HasWritten c.args.wanted (map_of (ledger_of h)) from 0 old old) (sym c.in_ok-from.ensures.items) (nothing_yet c.args.wanted (map_of (ledger_of h)) old)

pub loop-seen-preserved : goal.loop-seen-preserved
loop-seen-preserved g c h stands =
    let map = map_of (ledger_of h) in
    let written = g.W.Write.contents in
    let single = single_so (ledger_of h) (c.closed_disks_open.ensures.cached c.args.store.now h stands).sound in
    let next = subst (λ from. IsNext (entries_of h) from (reported c.in-Some.entry)) c.as_slice.ensures.value (c.in-Some.ensures h stands) in
    let more =
    one_more c.args.wanted map c.loop-seen.from.items c.loop-seen._seen (reported c.in-Some.entry) (written c.args.writer.now.inner) (written c.loop-seen.writer.inner)
    (written c.write_key.new.writer.inner) single (c.loop-seen.invariant h stands) next (λ d there is. c.in_ok-write_key.ensures h stands d there is) in
    let from : key_of c.in-Some.entry.key ++ 0 ∷ [] ≡ c.in_ok-from-2.from.items =
    ap (λ (key : List ℕ). key ++ 0 ∷ []) (sym c.as_slice-in-loop-seen.ensures) ∙ sym c.in_ok-from-2.ensures in
    subst (λ from. HasWritten c.args.wanted map from (c.loop-seen._seen + 1) (written c.args.writer.now.inner) (written c.write_key.new.writer.inner)) from more

pub returns-in_default : goal.returns-in_default
returns-in_default g c h stands =
    let none = subst (NoneFrom (entries_of h)) c.as_slice.ensures.value (none_next (entries_of h) _ c.next_key.result c.in_default.is (c.next_key.ensures h stands)) in
    ended_none c.args.wanted (map_of (ledger_of h)) c.loop-seen.from.items c.loop-seen._seen _ _ (c.loop-seen.invariant h stands) none

pub returns : goal.returns
returns g c h stands =
    let totals = ap (λ (t : Totals). t.keys) (c.totals-seen-end.ensures h stands) in
    let past = c.loop-seen-test.false in
    ended_all c.args.wanted (map_of (ledger_of h)) c.loop-seen.from.items c.loop-seen._seen _ _ (c.loop-seen.invariant h stands) (omega (arith, totals, past))
