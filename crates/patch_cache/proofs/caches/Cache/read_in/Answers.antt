use Rattle.std.proofs.Common.{◌≡◌, ◌<◌, ◌∙◌, ℕ, List, [], length, sym, arith}
use Rattle.std.specs.Prelude.{slice_index_or}
use Rattle.std.proofs.lemmas.Option.{get_or_from_slice_get}
use Rattle.patch_model.specs.History.{history_of, cached}
use Rattle.patch_cache.proofs.caches.Cache.read_in.Goals as goal

pub returns-in-Ok-clause-paged : goal.returns-in-Ok-clause-paged
returns-in-Ok-clause-paged g c = λ run at honest images.
    let block : ℕ = c.args.block in
    let contents : List (List ℕ) = g.D.Device.contents c.args.device.now in
    let placed : block < length run.first = let count = at.count in let known = c.requires.known in omega (arith, count, known) in
    let held : slice_index_or contents block [] ≡ cached (history_of run block) = c.clean_blocks_are_held.ensures run contents block at.legal images placed (at.absent block placed c.requires.absent) in
    let there = get_or_from_slice_get contents block _ [] (c.in_ok-bytes.ensures.gives honest) in
    c.in-Ok.ensures.answer run at (sym held ∙ there)
