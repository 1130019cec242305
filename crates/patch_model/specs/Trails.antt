-- Trails of calls, one after another.
use Rattle.std.proofs.Common.{◌≡◌, ℕ, suc, ◌+◌, ◌<◌, ◌≤◌, List, [], ◌∷◌, ◌++◌, length, sym, ap, arith, subst}
use Rattle.std.proofs.lemmas.List.{take-append-le}
use Rattle.patch_model.specs.Step.{Step}
use Rattle.patch_model.specs.Execution.{Execution, followed_by, cut}
use Rattle.patch_model.specs.Crash.{MayLeave, HasTrail}

-- the execution cut within its older part
cut_before : (run : Execution) (more : List Step) (n : ℕ) → n ≤ length run.steps → cut n (followed_by run more) ≡ cut n run
cut_before run more n h = ap (λ steps. let v : Execution = record { first = run.first; steps = steps } in v) (take-append-le n run.steps more h)

within_steps : (run : Execution) (left_at : ℕ → List (List ℕ) → Type 0) (moment from : ℕ) (counts : List ℕ) → HasTrail run left_at moment from counts → from ≤ length run.steps
within_steps run left_at moment from [] h = h
within_steps run left_at moment from (n ∷ ns) h =
    let r : n ≤ length run.steps = within_steps run left_at (suc moment) n ns h.2 in let s : from ≤ n = h.0 in omega arith

-- a trail from a count is one from an earlier count
from_earlier : (run : Execution) (left_at : ℕ → List (List ℕ) → Type 0) (moment from earlier : ℕ) (counts : List ℕ) → earlier ≤ from → HasTrail run left_at moment from counts
    → HasTrail run left_at moment earlier counts
from_earlier run left_at moment from earlier [] le h = let g : from ≤ length run.steps = h in omega arith
from_earlier run left_at moment from earlier (n ∷ ns) le h = let g : from ≤ n = h.0 in (omega arith, h.1, h.2)

-- The trails of two calls, one after the other, join to one, where of the earlier moments the second one leaves what was left of them.
pub trails_join : (run : Execution) (more : List Step) (left_at left_now : ℕ → List (List ℕ) → Type 0) (moment from : ℕ) (counts next : List ℕ)
    → ((t : ℕ) (disk : List (List ℕ)) → t < moment + length counts → left_now t disk → left_at t disk)
    → HasTrail run left_at moment from counts → HasTrail (followed_by run more) left_now (moment + length counts) (length run.steps) next
    → HasTrail (followed_by run more) left_now moment from (counts ++ next)
trails_join run more left_at left_now moment from [] next stay h g =
    let behind : moment + 0 ≡ moment = omega arith in
    from_earlier (followed_by run more) left_now moment (length run.steps) from next h (subst (λ m. HasTrail (followed_by run more) left_now m (length run.steps) next) behind g)
trails_join run more left_at left_now moment from (n ∷ ns) next stay h g =
    let within : n ≤ length run.steps = within_steps run left_at (suc moment) n ns h.2 in
    let behind : moment + suc (length ns) ≡ suc moment + length ns = omega arith in (
      h.0,
      λ disk left. subst (λ v. MayLeave v disk) (sym (cut_before run more n within)) (h.1 disk (stay moment disk (omega arith) left)),
      trails_join run more left_at left_now (suc moment) n ns next (λ t disk below left. stay t disk (omega (arith, below)) left) h.2
          (subst (λ m. HasTrail (followed_by run more) left_now m (length run.steps) next) behind g),
    )
