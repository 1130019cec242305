-- A patch's number is its place, in every world.
use Rattle.std.proofs.Common.{◌≡◌, ℕ, ◌+◌, ◌≤◌, ◌∙◌, inl, inr, List, [], ◌∷◌, ◌++◌, length, map, sym, ap, arith}
use Rattle.std.proofs.lemmas.List.Sums.{fold_push}
use Rattle.patch_model.specs.Entries.{AreApart}
use Rattle.patch_model.specs.Step.{Step, Create, Merge, Send, Complete}
use Rattle.patch_model.specs.Execution.{Execution, extended}
use Rattle.patch_model.specs.Entry.{Entry}
use Rattle.patch_model.specs.Ready.{ready, IsLargestWritable}
use Rattle.patch_model.specs.State.{State, joined, sent, landed, class_of, after_step, after_steps, at_first, state_of, entries_of}
use Rattle.patch_model.specs.Member.{In}
use Rattle.patch_model.specs.Unchanged.{patch-joined, patch-landed, patch-sent}
use Rattle.patch_model.proofs.Striking.{ready-largest}

-- the patches are numbered from n on
abbrev pub Numbered : ℕ → List Entry → Type 0
Numbered n [] = Unit {0}
Numbered n (e ∷ es) = (e.patch.no ≡ n) × Numbered (n + 1) es

Numbered-push : (n : ℕ) (es : List Entry) (e : Entry) → Numbered n es → e.patch.no ≡ n + length es → Numbered n (es ++ e ∷ [])
Numbered-push n [] e h same = (omega arith, tt)
Numbered-push n (x ∷ xs) e h same = (h.0, Numbered-push (n + 1) xs e h.1 (omega arith))

Numbered-map : (f : Entry → Entry) → ((e : Entry) → (f e).patch ≡ e.patch) → (n : ℕ) (es : List Entry) → Numbered n es → Numbered n (map f es)
Numbered-map f keeps n [] h = tt
Numbered-map f keeps n (x ∷ xs) h = (ap (λ p. p.no) (keeps x) ∙ h.0, Numbered-map f keeps (n + 1) xs h.1)

pub Numbered-after_step : (st : State) (step : Step) → Numbered 0 st.entries → Numbered 0 (after_step st step).entries
Numbered-after_step st (Create block begin bytes after undo) h = Numbered-push 0 st.entries _ h (omega arith)
Numbered-after_step st (Merge a b) h = Numbered-map (joined (class_of st.entries a) (class_of st.entries b)) (patch-joined _ _) 0 st.entries h
Numbered-after_step st (Send block) h = Numbered-map (sent (ready st.entries block)) (patch-sent _) 0 st.entries h
Numbered-after_step st (Complete block) h = Numbered-map (landed block) (patch-landed block) 0 st.entries h

pub Numbered-after_steps : (st : State) (steps : List Step) → Numbered 0 st.entries → Numbered 0 (after_steps st steps).entries
Numbered-after_steps st [] h = h
Numbered-after_steps st (s ∷ ss) h = Numbered-after_steps (after_step st s) ss (Numbered-after_step st s h)

pub Numbered-run : (run : Execution) → Numbered 0 (entries_of run)
Numbered-run run = Numbered-after_steps at_first run.steps tt

pub Numbered-above : (n : ℕ) (es : List Entry) → Numbered n es → (e : Entry) → In es e → n ≤ e.patch.no
Numbered-above n [] h e i = absurd i
Numbered-above n (x ∷ xs) h e (inl same) = let eq : x.patch.no ≡ e.patch.no = ap (λ y. y.patch.no) same in let eq2 : x.patch.no ≡ n = h.0 in omega arith
Numbered-above n (x ∷ xs) h e (inr i) = let r : n + 1 ≤ e.patch.no = Numbered-above (n + 1) xs h.1 e i in omega arith

pub apart-from_Numbered : (n : ℕ) (es : List Entry) → Numbered n es → AreApart es
apart-from_Numbered n [] h e f i j same = absurd i
apart-from_Numbered n (x ∷ xs) h e f (inl i) (inl j) same = sym i ∙ j
apart-from_Numbered n (x ∷ xs) h e f (inl i) (inr j) same =
    let eq : x.patch.no ≡ e.patch.no = ap (λ y. y.patch.no) i in let at : x.patch.no ≡ n = h.0 in let above = Numbered-above (n + 1) xs h.1 f j in absurd (omega arith)
apart-from_Numbered n (x ∷ xs) h e f (inr i) (inl j) same =
    let eq : x.patch.no ≡ f.patch.no = ap (λ y. y.patch.no) j in let at : x.patch.no ≡ n = h.0 in let above = Numbered-above (n + 1) xs h.1 e i in absurd (omega arith)
apart-from_Numbered n (x ∷ xs) h e f (inr i) (inr j) same = apart-from_Numbered (n + 1) xs h.1 e f i j same

pub AreApart-run : (run : Execution) → AreApart (entries_of run)
AreApart-run run = apart-from_Numbered 0 (entries_of run) (Numbered-run run)

pub ready_is_largest : (run : Execution) (block : ℕ) → IsLargestWritable (entries_of run) block (ready (entries_of run) block)
ready_is_largest run block = ready-largest (entries_of run) block (AreApart-run run)

-- a further step is taken from the state so far
pub state_of-extended : (run : Execution) (step : Step) → state_of (extended run step) ≡ after_step (state_of run) step
state_of-extended run step = fold_push after_step at_first run.steps step
