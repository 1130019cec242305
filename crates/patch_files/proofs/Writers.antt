-- What the writers of a script ask for, and what is written of their replies.
use Rattle.std.proofs.Common.{◌≡◌, ℕ, ◌+◌, ◌<◌, ◌≤◌, ◌∙◌, List, [], ◌∷◌, ◌++◌, Option, length, map, get_or, drop, suc, refl, sym, ap, subst, arith, add-one, drop-cons, append_assoc}
use Rattle.std.specs.Prelude.{Some, None, Result, Ok, Err, IfOk, IfSome, OnOk, Vec, vec_len, flat_map, sum_by}
use Rattle.std.specs.declared.alloc.Global.{Global}
use Rattle.std.specs.Io.KnownBytes.{Appends}
use Rattle.std.proofs.lemmas.List.{append-nil, map-append, length-map, drop_all}
use Rattle.std.proofs.lemmas.List.Folds.{flat_map-map}
use Rattle.std.proofs.lemmas.List.FromFn.{map-range_with_len_more}
use Rattle.std.proofs.lemmas.List.Sums.{sum_by-cons}
use Rattle.patch_device.specs.declared.devices.Device.{Ghosts}
use Rattle.patch_device.specs.SameDevice.{IsSameDevice, same_both}
use Rattle.patch_disks.specs.declared.endings.Stop.{Stop}
use Rattle.patch_disks.specs.Ending.{IsDoneBehind}
use Rattle.patch_history.specs.declared.commands.Command.{Command as CodeCommand}
use Rattle.patch_history.specs.declared.commands.Reply.{Reply as CodeReply}
use Rattle.patch_history.specs.Command.{Command}
use Rattle.patch_history.specs.Commands.{command_of, reply_told}
use Rattle.patch_store.specs.Flushing.{HoldCached}
use Rattle.patch_store.specs.Meaning.{Store}
use Rattle.patch_store.specs.Opening.{IsOpened}
use Rattle.patch_shared.specs.Books.{IsKept, IsFresh, IsNew, run_of}
use Rattle.patch_shared.specs.Serving.{book_of}
use Rattle.patch_shared.specs.Conversations.{AreTold, IsSettled, commands_in, replies_in}
use Rattle.patch_shared.specs.declared.serving.Finished.{Finished}
use Rattle.patch_commands.specs.declared.commands.CommandLine.{CommandLine}
use Rattle.patch_commands.specs.Reply.{reply_line}
use Rattle.patch_commands.specs.Shared.{shared_commands}
use Rattle.patch_replay.specs.Growing.{twice, same}
use Rattle.patch_disks.specs.Opening.{IsUnused}
use Rattle.patch_disks.specs.Going.{StillLasts}
use Rattle.patch_disks.specs.Reading.{HasLinesBy}
use Rattle.patch_files.specs.Serving.{commands_by, jobs_by, replies_text, all_text, HasServed, HasServedScript, HasServedOnOne, HasServedScriptOnOne}

-- The commands.

-- those of one writer more
pub jobs_more : (jobs : List (Vec (CodeCommand Global) Global)) (job : Vec (CodeCommand Global) Global) (writer : ℕ) (lines : List CommandLine)
    → commands_in jobs ≡ jobs_by writer lines → map command_of job.items ≡ commands_by writer lines
    → commands_in (jobs ++ job ∷ []) ≡ jobs_by (writer + 1) lines
jobs_more jobs job writer lines before is =
    map-append (λ (v : Vec (CodeCommand Global) Global). map command_of v.items) jobs (job ∷ [])
    ∙ ap (λ (front : List (List Command)). front ++ map command_of job.items ∷ []) before
    ∙ ap (λ (one : List Command). jobs_by writer lines ++ one ∷ []) is
    ∙ sym (map-range_with_len_more (λ (n : ℕ). commands_by n lines) 0 writer writer (omega arith))

-- The texts.

-- the texts of some first parts were written, and these are left
pub record WritesOn {A : Type 0} (text_of : A → List ℕ) (all rest : List A) (old new : Option (List ℕ)) : Type 0 where
  pub text : List ℕ
  pub written : Appends old new text
  pub whole : text ++ flat_map text_of rest ≡ flat_map text_of all

pub writes_none : {A : Type 0} (text_of : A → List ℕ) (all : List A) (old : Option (List ℕ)) → WritesOn text_of all all old old
writes_none text_of all old = record { text = []; written = same old; whole = refl }

part_is : {A : Type 0} (all : List A) (i : ℕ) (one : A) → i < length all → one ≡ get_or all i one → drop i all ≡ one ∷ drop (i + 1) all
part_is all i one within is = rw (add-one) (drop-cons all i one within ∙ ap (λ x. x ∷ drop (suc i) all) (sym is))

pub writes_more : {A : Type 0} (text_of : A → List ℕ) (all : List A) (i : ℕ) (one : A) (old mid new : Option (List ℕ)) (said : List ℕ)
    → i < length all → one ≡ get_or all i one → WritesOn text_of all (drop i all) old mid → said ≡ text_of one → Appends mid new said
    → WritesOn text_of all (drop (i + 1) all) old new
writes_more text_of all i one old mid new said within is on says told =
    let rest = flat_map text_of (drop (i + 1) all) in
    record {
      text = on.text ++ said;
      written = twice old mid new on.text said on.written told;
      whole = append_assoc on.text said rest ∙ ap (λ (t : List ℕ). on.text ++ (t ++ rest)) says
          ∙ ap (λ (left : List _). on.text ++ flat_map text_of left) (sym (part_is all i one within is)) ∙ on.whole;
    }

pub writes_all : {A : Type 0} (text_of : A → List ℕ) (all : List A) (i : ℕ) (old new : Option (List ℕ)) → length all ≤ i
    → WritesOn text_of all (drop i all) old new → Appends old new (flat_map text_of all)
writes_all text_of all i old new past on =
    subst (Appends old new) (sym (append-nil on.text) ∙ ap (λ (left : List _). on.text ++ flat_map text_of left) (sym (drop_all i all past)) ∙ on.whole) on.written

-- of one writer's replies
abbrev pub line_of : CodeReply Global → List ℕ
line_of reply = reply_line (reply_told reply)

pub replies_written : (replies : List (CodeReply Global)) (old new : Option (List ℕ)) → Appends old new (flat_map line_of replies)
    → Appends old new (replies_text (map reply_told replies))
replies_written replies old new written = subst (Appends old new) (sym (flat_map-map reply_line (reply_told {A = Global}) replies)) written

-- and of all
abbrev pub lines_of_all : Vec (CodeReply Global) Global → List ℕ
lines_of_all replies = replies_text (map reply_told replies.items)

pub all_written : (replies : List (Vec (CodeReply Global) Global)) (old new : Option (List ℕ)) → Appends old new (flat_map lines_of_all replies)
    → Appends old new (all_text (replies_in replies))
all_written replies old new written =
    subst (Appends old new) (sym (flat_map-map replies_text (λ (v : Vec (CodeReply Global) Global). map reply_told v.items) replies)) written

-- The store.

pub new_store : (s : Store) → IsUnused s → IsNew s
new_store s u = (u.blocks, record { opened = u.opened; no_steps = u.no_steps })

pub fresh_store : (s : Store) (blocks : List (List ℕ)) → IsUnused s → IsOpened blocks s → IsFresh s blocks
fresh_store s blocks u opened = record { opened = opened; no_steps = u.no_steps }

-- The end.

replies_counted : (all : List (Vec (CodeReply Global) Global)) → sum_by (λ (v : Vec (CodeReply Global) Global). vec_len v) all ≡ sum_by length (replies_in all)
replies_counted [] = refl
replies_counted (v ∷ vs) =
    let one : vec_len v ≡ length (map (reply_told {A = Global}) v.items) = omega (arith, v.ok, length-map v.items (reply_told {A = Global})) in
    sum_by-cons (λ (u : Vec (CodeReply Global) Global). vec_len u) v vs
    ∙ ap (λ (n : ℕ). n + sum_by (λ (u : Vec (CodeReply Global) Global). vec_len u) vs) one
    ∙ ap (λ (n : ℕ). length (map (reply_told {A = Global}) v.items) + n) (replies_counted vs)
    ∙ sym (sum_by-cons length (map (reply_told {A = Global}) v.items) (replies_in vs))

pub served_so : {D E : Type 0} (g : Ghosts D) (r : Result D E) (f : Finished D) (jobs : List (List Command)) (writers : ℕ) (lines : List CommandLine)
    (old new : Option (List ℕ)) (contents : List (List ℕ)) → (book_of f).opening ≡ contents → IsKept (book_of f)
    → AreTold (book_of f).calls jobs (replies_in f.replies.items) → jobs ≡ jobs_by writers lines
    → length (book_of f).calls ≡ sum_by (λ (v : Vec (CodeReply Global) Global). vec_len v) f.replies.items → IsSettled (run_of (book_of f))
    → HoldCached (run_of (book_of f)) (g.contents f.device) → IfOk r (λ now. g.contents now ≡ g.contents f.device)
    → OnOk r (Appends old new (all_text (replies_in f.replies.items))) → IfOk r (λ now. HasServed writers lines old new contents (g.contents now))
served_so g (Ok now) f jobs writers lines old new contents opening kept told are counted settled disk same written = record {
  book = book_of f;
  opening_is = opening;
  kept = kept;
  replies = replies_in f.replies.items;
  told = subst (λ (j : List (List Command)). AreTold (book_of f).calls j (replies_in f.replies.items)) are told;
  no_others = counted ∙ replies_counted f.replies.items;
  written = written;
  settled = settled;
  disk = subst (HoldCached (run_of (book_of f))) (sym same) disk;
}
served_so g (Err e) f jobs writers lines old new contents opening kept told are counted settled disk same written = tt

-- it is the same device still, over some calls and then more
pub same_over : {D E : Type 0} (g : Ghosts D) (r : Result D E) (old mid : D) → IsSameDevice g old mid → IfOk r (IsSameDevice g mid) → IfOk r (IsSameDevice g old)
same_over g (Ok now) old mid first second = same_both g old mid now first second
same_over g (Err e) old mid first second = tt

still_lasts : {D : Type 0} (g : Ghosts D) (a b c : D) → StillLasts g a b → StillLasts g b c → StillLasts g a c
still_lasts g a b c first second lasting = second (first lasting)

-- and what lasts over them
pub lasts_over : {D E : Type 0} (g : Ghosts D) (r : Result D E) (old mid : D) → StillLasts g old mid → IfOk r (StillLasts g mid) → IfOk r (StillLasts g old)
lasts_over g (Ok now) old mid first second = still_lasts g old mid now first second
lasts_over g (Err e) old mid first second = tt

-- where no moment was begun, and the contents stay
pub lasts_alike : {D : Type 0} (g : Ghosts D) (old now : D) → IsSameDevice g old now → g.moment now ≡ g.moment old → g.contents now ≡ g.contents old
    → StillLasts g old now
lasts_alike g old now device none same lasting disk may =
    lasting disk ((device.time.past (g.moment old) disk (omega arith)).1 (subst (λ t. g.left_at now t disk) none may)) ∙ sym same

-- where no more is written
more_served : (writers : ℕ) (lines : List CommandLine) (old mid new : Option (List ℕ)) (contents contents_now : List (List ℕ))
    → HasServed writers lines old mid contents contents_now → Appends mid new [] → HasServed writers lines old new contents contents_now
more_served writers lines old mid new contents contents_now served none = record {
  book = served.book;
  opening_is = served.opening_is;
  kept = served.kept;
  replies = served.replies;
  told = served.told;
  no_others = served.no_others;
  written = subst (Appends old new) (append-nil (all_text served.replies)) (twice old mid new (all_text served.replies) [] served.written none);
  settled = served.settled;
  disk = served.disk;
}

-- what was done with the lines is known of the script, where no more is written
pub script_served : (input old mid new : Option (List ℕ)) (contents contents_now : List (List ℕ)) (writers : ℕ) (lines : List CommandLine)
    → IfSome input (λ text. HasLinesBy (shared_commands writers) text lines) → HasServed writers lines old mid contents contents_now → Appends mid new []
    → HasServedScript writers input old new contents contents_now
script_served None old mid new contents contents_now writers lines has served none = tt
script_served (Some text) old mid new contents contents_now writers lines has served none =
    (lines, has, more_served writers lines old mid new contents contents_now served none)

done_on_one : {D : Type 0} (g : Ghosts D) (ran : Result (Unit {0}) Stop) (writers : ℕ) (lines : List CommandLine) (old mid new : Option (List ℕ))
    → OnOk ran (HasServedOnOne g writers lines old mid) → IsDoneBehind ran mid new → HasServedOnOne g writers lines old new
done_on_one g (Ok done) writers lines old mid new one none =
    (one.0, one.1, one.2, one.3, more_served writers lines old mid new (g.contents one.0) (g.contents one.1) one.4 none)
done_on_one g (Err stop) writers lines old mid new one none = absurd none

-- and of a script that was served on a file
pub script_on_one : {D : Type 0} (g : Ghosts D) (ran : Result (Unit {0}) Stop) (input old mid new : Option (List ℕ)) (writers : ℕ) (lines : List CommandLine)
    → IfSome input (λ text. HasLinesBy (shared_commands writers) text lines) → OnOk ran (HasServedOnOne g writers lines old mid) → IsDoneBehind ran mid new
    → HasServedScriptOnOne g writers input old new
script_on_one g ran None old mid new writers lines has one none = tt
script_on_one g ran (Some text) old mid new writers lines has one none = (lines, has, done_on_one g ran writers lines old mid new one none)
