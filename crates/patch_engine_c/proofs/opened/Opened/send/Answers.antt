use Rattle.std.proofs.Common.{◌∙◌, ◌++◌, refl, ap, drop, arith, length}
use Rattle.std.proofs.lemmas.List.{take-append-drop}
use Rattle.patch_cache.specs.Refusals.{send_cause}
use Rattle.patch_engine_c.proofs.Telling.{refused_so, room_so}
use Rattle.patch_engine_c.proofs.opened.Opened.send.Goals as goal

pub returns-in-Err : goal.returns-in-Err
returns-in-Err c =
    let into = c.args.image.now in
    room_so (length into) 4096 _ _ (omega (arith, c.if-image-lt-BLOCK.false))
    (λ run is. refused_so c.kind.result (send_cause c.in-Err.refusal) _ _ c.kind.ensures (
      c.in-Err.ensures.cause run is,
      record {
        number_is = refl;
        buffer_is = ap (λ front. front ++ drop 4096 into) c.in-Err.ensures.not_copied ∙ take-append-drop 4096 into;
        engine_is = c.in-Err.ensures.refused;
      },
    ))
