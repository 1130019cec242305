use Rattle.std.proofs.Common.{[], ◌∙◌, ap}
use Rattle.std.specs.Prelude.{Ok}
use Rattle.patch_model.specs.History.{history_of, without}
use Rattle.patch_cache.proofs.Accepting.{accepted, permitted_ones}
use Rattle.patch_cache.proofs.Permitting.{none_taken, permitted}
use Rattle.patch_cache.proofs.LookAnswers.{looked, sent_image}
use Rattle.patch_cache.proofs.laws.promise.Goals as goal

pub returns-clause-taking_back : goal.returns-clause-taking_back
returns-clause-taking_back c = λ run block moves legal p.
    let h = history_of run block in
    (permitted h [] moves (none_taken h) p, (λ others q same. c.orders_end_alike.ensures h _ _ same), λ none. ap (without h) none)

pub returns-clause-moves : goal.returns-clause-moves
returns-clause-moves c = λ run block moves names legal known.
    let h = history_of run block in
    let orderly = c.executions_are_orderly.ensures in
    let whole = orderly.blocks run block legal known in
    let coherent = c.blocks_are_coherent.ensures.coherent h block whole in
    let all = orderly.patches run legal in
    let numbered = orderly.numbered run in
    let causes = c.refusals_have_causes.ensures in (
      λ is. accepted run block all numbered whole coherent causes.take causes.put_back causes.class [] names moves (none_taken h) is,
      λ p. permitted_ones run block all numbered whole coherent causes.take causes.put_back causes.class [] moves (none_taken h) p.0 ∙ ap Ok p.1,
    )

pub returns-clause-looks : goal.returns-clause-looks
returns-clause-looks c = λ run block start len moves without cached legal is.
    let orderly = c.executions_are_orderly.ensures in
    let causes = c.refusals_have_causes.ensures in
    looked run block start len moves without cached (orderly.numbered run) (λ known. orderly.blocks run block legal known) (orderly.patches run legal)
    c.blocks_are_coherent.ensures.coherent causes.take causes.put_back causes.class is

pub returns-clause-images : goal.returns-clause-images
returns-clause-images c = sent_image
