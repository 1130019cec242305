-- Reading frames one after another, and that there is one way to do so.
use Rattle.std.proofs.Common.{◌≡◌, ℕ, ◌^◌, ◌<◌, List, [], ◌∷◌, ◌++◌, length, map, drop, Result, Ok, Err, refl, sym, ap, subst, ◌∙◌, append_assoc, append-nil, arith}
use Rattle.std.specs.Prelude.{◌≢◌, IfOk, IfErr}
use Rattle.std.specs.List.{AllByRecursion}
use Rattle.std.proofs.lemmas.List.{drop_at, map-append}
use Rattle.std.proofs.lemmas.List.Elements.{All-push}
use Rattle.std.proofs.lemmas.List.Concat.{flat_map-cons}
use Rattle.std.proofs.lemmas.Grind.{flat_map-append}
use Rattle.std.proofs.lemmas.List.Elements.{All-push}
use Rattle.patch_frame.specs.declared.faults.FrameFault.{FrameFault}
use Rattle.patch_frame.specs.declared.runs.FramesRefusal.{FramesRefusal}
use Rattle.patch_frame.specs.declared.runs.FramesRefusal.TheVariants.{Fault, OutOfMemory}
use Rattle.patch_frame.specs.declared.framing.Frame.{Frame}
use Rattle.patch_frame.specs.Frame.{Content, content, Fits, spelling, length_of, frame_at}
use Rattle.patch_frame.specs.Run.{run, AllFit, IsRead, StopsSo, GivesRun}
use Rattle.patch_frame.proofs.FrameFields.{frame_again, length-spelling}

-- ---- there is one way

is_ok : (c d : Content) → ◌≡◌ {A = Result Content FrameFault} (Ok c) (Ok d) → c ≡ d
is_ok c d e = cc

-- a spelling that is followed by something begins no other spelling
pub one_front : (limit : ℕ) (c d : Content) (x y : List ℕ) → limit < 2 ^ 32 → Fits limit c → Fits limit d → spelling c ++ x ≡ spelling d ++ y → (c ≡ d) × (x ≡ y)
one_front limit c d x y small fc fd e =
    let there = frame_again limit (spelling c ++ x) c x small fc refl in
    let here = frame_again limit (spelling c ++ x) d y small fd e in
    let same : c ≡ d = is_ok c d (sym there ∙ here) in
    let rest : x ≡ drop (length_of c) (spelling c ++ x) = sym (drop_at (spelling c) x (length_of c) (length-spelling c)) in
    let long : length (spelling d) ≡ length_of c = length-spelling d ∙ ap length_of (sym same) in
    (same, rest ∙ ap (drop (length_of c)) e ∙ drop_at (spelling d) y (length_of c) long)

spelled_some : (c : Content) (x : List ℕ) → [] ≡ spelling c ++ x → ⊥
spelled_some c x e = cc

pub one_run : (limit : ℕ) (cs ds : List Content) → limit < 2 ^ 32 → AllFit limit cs → AllFit limit ds → run cs ≡ run ds → cs ≡ ds
one_run limit [] [] small fc fd e = refl
one_run limit [] (d ∷ ds) small fc fd e = absurd (spelled_some d (run ds) (e ∙ flat_map-cons spelling d ds))
one_run limit (c ∷ cs) [] small fc fd e = absurd (spelled_some c (run cs) (sym e ∙ flat_map-cons spelling c cs))
one_run limit (c ∷ cs) (d ∷ ds) small fc fd e =
    let front = one_front limit c d (run cs) (run ds) small fc.0 fd.0 (sym (flat_map-cons spelling c cs) ∙ e ∙ flat_map-cons spelling d ds) in
    let behind = one_run limit cs ds small fc.1 fd.1 front.1 in
    ap (λ (t : Content). t ∷ cs) front.0 ∙ ap (λ (t : List Content). d ∷ t) behind

refused_read : (c : Content) (f : FrameFault) → ◌≡◌ {A = Result Content FrameFault} (Ok c) (Err f) → ⊥
refused_read c f e = absurd cc

behind_first : (b : Content) (before : List Content) (rest : List ℕ) → run (b ∷ before) ++ rest ≡ spelling b ++ (run before ++ rest)
behind_first b before rest = ap (λ (t : List ℕ). t ++ rest) (flat_map-cons spelling b before) ∙ append_assoc (spelling b) (run before) rest

-- what stops is no run
pub no_stop : (limit : ℕ) (cs before : List Content) (rest : List ℕ) (f : FrameFault) → limit < 2 ^ 32 → AllFit limit cs → AllFit limit before → rest ≢ [] → frame_at limit rest ≡ Err f → run cs ≡ run before ++ rest → ⊥
no_stop limit [] [] rest f small fc fb left refused e = left (sym e)
no_stop limit (c ∷ cs) [] rest f small fc fb left refused e = refused_read c f (sym (frame_again limit rest c (run cs) small fc.0 (sym e ∙ flat_map-cons spelling c cs)) ∙ refused)
no_stop limit [] (b ∷ before) rest f small fc fb left refused e = spelled_some b (run before ++ rest) (e ∙ behind_first b before rest)
no_stop limit (c ∷ cs) (b ∷ before) rest f small fc fb left refused e =
    let front = one_front limit c b (run cs) (run before ++ rest) small fc.0 fb.0 (sym (flat_map-cons spelling c cs) ∙ e ∙ behind_first b before rest) in
    no_stop limit cs before rest f small fc.1 fb.1 left refused front.1

-- ---- one more frame

all_more : {X : Type 0} (P : X → Type 0) (xs : List X) (x : X) → AllByRecursion P xs → P x → AllByRecursion P (xs ++ x ∷ [])
all_more P [] x all h = (h, tt)
all_more P (y ∷ xs) x all h = (all.0, all_more P xs x all.1 h)

run_more : (cs : List Content) (c : Content) → run (cs ++ c ∷ []) ≡ run cs ++ spelling c
run_more cs c = flat_map-append spelling cs (c ∷ []) ∙ ap (λ (t : List ℕ). run cs ++ t) (flat_map-cons spelling c [] ∙ append-nil (spelling c))

pub reads_more : (limit : ℕ) (bytes : List ℕ) (frames : List Frame) (rest : List ℕ) (frame : Frame) → IsRead limit bytes frames rest → Fits limit (content frame) → frame.length ≡ length_of (content frame) → rest ≡ spelling (content frame) ++ drop frame.length rest
    → IsRead limit bytes (frames ++ frame ∷ []) (drop frame.length rest)
reads_more limit bytes frames rest frame is fits long e =
    let more : map content (frames ++ frame ∷ []) ≡ map content frames ++ content frame ∷ [] = map-append content frames (frame ∷ []) in
    record {
      fit = subst (AllFit limit) (sym more) (all_more (Fits limit) (map content frames) (content frame) is.fit fits);
      lengths = All-push (λ frame. frame.length ≡ length_of (content frame)) frames frame is.lengths long;
      stands = is.stands ∙ ap (λ (t : List ℕ). run (map content frames) ++ t) e
          ∙ sym (append_assoc (run (map content frames)) (spelling (content frame)) (drop frame.length rest))
          ∙ ap (λ (t : List ℕ). t ++ drop frame.length rest) (sym (run_more (map content frames) (content frame)) ∙ ap run (sym more));
    }

pub some_length : (c : Content) → 0 < length_of c
some_length c = omega arith

-- ---- at the call

not_nil : (xs : List ℕ) → 0 < length xs → xs ≢ []
not_nil xs h e = let none = ap length e in absurd (omega arith)

pub stops : (limit : ℕ) (bytes : List ℕ) (frames : List Frame) (rest : List ℕ) (f : FrameFault) → IsRead limit bytes frames rest → 0 < length rest → frame_at limit rest ≡ Err f → StopsSo limit bytes (Fault f)
stops limit bytes frames rest f is some refused = record { before = map content frames; rest = rest; fit = is.fit; stands = is.stands; some_rest = not_nil rest some; refused = refused }

pub is_given : {V : Type 0} (view : V → List Frame) (limit : ℕ) (bytes : List ℕ) (r : Result V FramesRefusal) → limit < 2 ^ 32 → IfOk r (λ v. IsRead limit bytes (view v) []) → IfErr r (StopsSo limit bytes)
    → (cs : List Content) → AllFit limit cs → bytes ≡ run cs → GivesRun (λ v. map content (view v)) r cs
is_given view limit bytes (Ok v) small found refused cs fit e = one_run limit (map content (view v)) cs small found.fit fit (sym (append-nil (run (map content (view v)))) ∙ sym found.stands ∙ e)
is_given view limit bytes (Err (Fault f)) small found refused cs fit e = no_stop limit cs refused.before refused.rest f small fit refused.fit refused.some_rest refused.refused (sym e ∙ refused.stands)
is_given view limit bytes (Err OutOfMemory) small found refused cs fit e = tt
