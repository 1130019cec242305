use Rattle.std.proofs.Common.{◌≡◌, ◌∙◌, ◌+◌, ◌≤◌, [], false, length, sym, ap, subst, arith}
use Rattle.patch_model.specs.History.{history_of, without}
use Rattle.patch_model.specs.declared.blocks.TheConstants.{BLOCK}
use Rattle.patch_cache.specs.Meaning.{ShowsBy}
use Rattle.patch_cache.specs.Viewing.{seen_by, block_of, bytes_at}
use Rattle.patch_engine.proofs.Taking.{fits}
use Rattle.patch_engine.proofs.reading.show.Goals as goal

pub returns-in-Ok-clause-stands : goal.returns-in-Ok-clause-stands
returns-in-Ok-clause-stands g c = λ run at. let taken = c.in-Ok.ensures.taken run [] at in (taken.0, taken.2)

pub returns-in-Err-clause-stands : goal.returns-in-Err-clause-stands
returns-in-Err-clause-stands g c = λ run at. (c.in-Err.ensures.taken run [] at).1

pub returns-in-Ok-clause-shown : goal.returns-in-Ok-clause-shown
returns-in-Ok-clause-shown g c = λ run at known.
    let block = block_of c.args.view.now in
    let taken = c.in-Ok.ensures.taken run [] at in
    let shows : ShowsBy false (seen_by c.take_each.new.view) (block_of c.take_each.new.view) taken.0 run =
    subst (λ b. ShowsBy false (seen_by c.take_each.new.view) b taken.0 run) (sym c.take_each.ensures.same_block) taken.2 in
    let told : c.bytes.result.now ≡ without (history_of run block) taken.0 =
    c.bytes.ensures.paged run taken.0 shows ∙ ap (λ b. without (history_of run b) taken.0) c.take_each.ensures.same_block in
    let long : length c.copy_from_slice.new.self ≡ length c.args.into.now = c.copy_from_slice.ensures.len in
    let low : c.args.start + length c.copy_from_slice.new.self ≤ BLOCK = let most = c.if-len-gt-BLOCK.false in let room = c.if-start-len.false in omega (arith, long, most, room) in
    record {
      allowed = fits (length run.first) block c.args.start (length c.copy_from_slice.new.self) known low;
      names = taken.0;
      taken = taken.1;
      bytes_are = c.copy_from_slice.ensures.after ∙ ap (λ b. bytes_at b c.args.start (length c.args.into.now)) told
          ∙ ap (λ n. bytes_at (without (history_of run block) taken.0) c.args.start n) (sym long);
    }
