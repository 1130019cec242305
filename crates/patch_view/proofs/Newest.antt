-- The newest patch, laid.
use Rattle.std.proofs.Common.{ℕ, Bool, List, [], refl}
use Rattle.patch_model.specs.declared.patches.Undo.{Undo}
use Rattle.patch_model.specs.History.{History}
use Rattle.patch_view.specs.History.{IsNext, laid, made}
use Rattle.patch_stacks.specs.State.{Block, IsLaid}
use Rattle.patch_view.specs.Meaning.{IsBlockOf}
use Rattle.patch_view.proofs.Adding.{lays}

-- what is laid represents the history with the patch
pub laid_represents : (b now : Block) (h : History) (number block start : ℕ) (bytes after : List ℕ) (undo : Undo) (hard : Bool)
    → IsLaid b number start bytes after hard now → IsBlockOf b [] h → IsNext h (made number block start bytes after undo hard)
    → IsBlockOf now [] (laid h (made number block start bytes after undo hard))
laid_represents b now h number block start bytes after undo hard l r next =
    let e = l.is in
    rw e (lays b h (made number block start bytes after undo hard) r next refl refl l.all l.names)
