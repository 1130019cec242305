-- Commands that are answered one after another, and the reply to one that reads a key.
use Rattle.std.proofs.Common.{◌≡◌, ◌≢◌, ℕ, ◌+◌, ◌<◌, ◌∙◌, inl, false, List, [], ◌∷◌, ◌++◌, length, map, get_or, refl, sym, ap, subst, arith}
use Rattle.std.proofs.lemmas.List.{append_assoc, append-nil, length-append, length-map}
use Rattle.std.specs.Prelude.{Option, Some, None, Result, Ok, Err, flat_map}
use Rattle.patch_model.specs.declared.refusals.Refusal.{Refusal}
use Rattle.patch_model.specs.Step.{Step}
use Rattle.patch_cache.specs.Refusals.{IsCause}
use Rattle.patch_history.specs.declared.commands.Command.{Command as CodeCommand}
use Rattle.patch_history.specs.declared.commands.Command.TheVariants as code
use Rattle.patch_history.specs.declared.commands.Reply.{Reply as CodeReply}
use Rattle.patch_history.specs.declared.refusals.GetRefusal.{GetRefusal}
use Rattle.patch_history.specs.Command.{Command, Reply, Put, Get, Done, Value, Absent, GroupMade, Refused, unless, is_refused}
use Rattle.patch_history.specs.Commands.{command_of, reply_told}
use Rattle.patch_history.specs.History.{History, Call, standing_of, steps_in}
use Rattle.patch_history.specs.Laws.{HistoriesExtend}
use Rattle.patch_history.specs.Refusals.{get_cause}
use Rattle.patch_history.specs.Refusing.{why_no_key, found}
use Rattle.patch_recovery.specs.Ledger.{value_in}
use Rattle.patch_store.specs.Meaning.{Store, IsStoreOf, HasAnswered, Answers}
use Rattle.patch_store.specs.Replies.{reply_to}
use Rattle.patch_store.specs.Running.{commands_of, calls, with_calls, HasRun}
use Rattle.patch_store.proofs.Gaining.{answered, refused, right_refused, steps_push}

-- A key that is read.

never_refused : (value : Option (List ℕ)) → is_refused (found value) ≡ false
never_refused (Some value) = refl
never_refused None = refl

reply_known : (key : List ℕ) (value told : Option (List ℕ)) → why_no_key key ≡ None → value ≡ told → found value ≡ unless (why_no_key key) (found told)
reply_known key value told known is = ap found is ∙ sym (ap (λ c. unless c (found told)) known)

pub value_so : HistoriesExtend → (h : History) (writer : ℕ) (key value : List ℕ) (s : Store) → IsStoreOf s h → why_no_key key ≡ None
    → Some value ≡ value_in (standing_of h).map.entries key → HasAnswered h writer (Get key) (Value value) s s
value_so extends h writer key value s was known is =
    answered extends h writer (Get key) (Value value) s s was (inl (reply_known key (Some value) _ known is, ([], refl))) refl was.groups_are refl refl

pub absent_reply : HistoriesExtend → (h : History) (writer : ℕ) (key : List ℕ) (s : Store) → IsStoreOf s h → why_no_key key ≡ None
    → None ≡ value_in (standing_of h).map.entries key → HasAnswered h writer (Get key) Absent s s
absent_reply extends h writer key s was known is =
    answered extends h writer (Get key) Absent s s was (inl (reply_known key None _ known is, ([], refl))) refl was.groups_are refl refl

pub unread_so : HistoriesExtend → (h : History) (writer : ℕ) (key : List ℕ) (refusal : GetRefusal) (s : Store) → IsStoreOf s h
    → IsCause (why_no_key key) (get_cause refusal) → HasAnswered h writer (Get key) (Refused (get_cause refusal)) s s
unread_so extends h writer key refusal s was why =
    let value = value_in (standing_of h).map.entries key in
    refused extends h writer (Get key) (get_cause refusal) s s was
    (right_refused (standing_of h) writer (Get key) (why_no_key key) (get_cause refusal) (found value) refl (never_refused value) refl refl why) refl

-- One command after another.

none_called : (commands : List (ℕ × Command)) → calls commands [] [] ≡ []
none_called [] = refl
none_called (c ∷ commands) = refl

pub next_called : {A : Type 0} (commands : List (ℕ × CodeCommand A)) (replies : List (CodeReply A)) (each : List (List Step))
    (c : ℕ × CodeCommand A) (reply : CodeReply A) (steps : List Step)
    → length each ≡ length replies → length replies < length commands → get_or commands (length replies) c ≡ c
    → calls (commands_of commands) (map reply_told (replies ++ reply ∷ [])) (each ++ steps ∷ [])
    ≡ calls (commands_of commands) (map reply_told replies) each ++ Call c.0 (command_of c.1) (reply_told reply) steps ∷ []
next_called [] replies each c reply steps long within at = absurd (omega (arith, within))
next_called (d ∷ commands) [] [] c reply steps long within at =
    ap (λ events. Call d.0 (command_of d.1) (reply_told reply) steps ∷ events) (none_called (commands_of commands))
    ∙ ap (λ x. Call x.0 (command_of x.1) (reply_told reply) steps ∷ []) at
next_called (d ∷ commands) [] (s ∷ each) c reply steps long within at = absurd (omega (arith, long))
next_called (d ∷ commands) (r ∷ replies) [] c reply steps long within at = absurd (omega (arith, long))
next_called (d ∷ commands) (r ∷ replies) (s ∷ each) c reply steps long within at =
    ap (λ events. Call d.0 (command_of d.1) (reply_told r) s ∷ events)
    (next_called commands replies each c reply steps (omega (arith, long)) (omega (arith, within)) at)

pub begun_run : (h : History) (commands : List (ℕ × Command)) (s : Store) → IsStoreOf s h → HasRun h commands [] s s
begun_run h commands s was = record {
  each = [];
  many = refl;
  represents = subst (λ events. IsStoreOf s (record h { events = events })) (sym (ap (λ events. h.events ++ events) (none_called commands) ∙ append-nil h.events)) was;
  trace_is = sym (ap (λ events. s.cache.trace ++ flat_map steps_in events) (none_called commands) ∙ append-nil s.cache.trace);
}

pub next_run : {A : Type 0} (h : History) (commands : List (ℕ × CodeCommand A)) (replies : List (CodeReply A))
    (c : ℕ × CodeCommand A) (reply : CodeReply A) (old mid new : Store)
    → length replies < length commands → get_or commands (length replies) c ≡ c
    → HasRun h (commands_of commands) (map reply_told replies) old mid → Answers c.0 (command_of c.1) (reply_told reply) mid new
    → HasRun h (commands_of commands) (map reply_told (replies ++ reply ∷ [])) old new
next_run h commands replies c reply old mid new within at so_far answer =
    let asked = commands_of commands in
    let before = calls asked (map reply_told replies) so_far.each in
    let one = answer (with_calls h before) so_far.represents in
    let event = Call c.0 (command_of c.1) (reply_told reply) one.steps in
    let long : length so_far.each ≡ length replies = so_far.many ∙ length-map replies reply_told in
    let is : calls asked (map reply_told (replies ++ reply ∷ [])) (so_far.each ++ one.steps ∷ []) ≡ before ++ event ∷ [] =
    next_called commands replies so_far.each c reply one.steps long within at in
    record {
      each = so_far.each ++ one.steps ∷ [];
      many =
          length-append so_far.each (one.steps ∷ []) ∙ ap (λ n. n + 1) long ∙ sym (length-append replies (reply ∷ []))
          ∙ sym (length-map (replies ++ reply ∷ []) reply_told);
      represents = subst (λ events. IsStoreOf new (record h { events = events }))
          (append_assoc h.events before (event ∷ []) ∙ sym (ap (λ events. h.events ++ events) is)) one.gained.represents;
      trace_is =
          one.gained.trace_is ∙ ap (λ steps. steps ++ one.steps) so_far.trace_is
          ∙ append_assoc old.cache.trace (flat_map steps_in before) one.steps
          ∙ ap (λ steps. old.cache.trace ++ steps) (sym (ap (λ events. flat_map steps_in events) is ∙ steps_push before event));
    }

-- One command that is answered.

-- an answer is one to what was asked, as it was told
pub told_so : {h : History} {writer : ℕ} {asked command : Command} {told reply : Reply} {old new : Store} → asked ≡ command → told ≡ reply
    → HasAnswered h writer command reply old new → HasAnswered h writer asked told old new
told_so {h = h} {writer = writer} {asked = asked} {reply = reply} {old = old} {new = new} a t answer =
    subst (λ r. HasAnswered h writer asked r old new) (sym t) (subst (λ q. HasAnswered h writer q reply old new) (sym a) answer)

-- no value is told where a command is done
pub done_no_value : {X E : Type 0} (cause : E → Refusal) (outcome : Result X E) (told : Reply) (bytes : List ℕ)
    → told ≡ reply_to cause (λ _. Done) outcome → told ≢ Value bytes
done_no_value cause (Ok x) told bytes is value = let same : Done ≡ Value bytes = sym is ∙ value in cc
done_no_value cause (Err refusal) told bytes is value = let same : Refused (cause refusal) ≡ Value bytes = sym is ∙ value in cc

-- nor where a group is made
pub made_no_value : {E : Type 0} (cause : E → Refusal) (outcome : Result ℕ E) (told : Reply) (bytes : List ℕ)
    → told ≡ reply_to cause (λ group. GroupMade group) outcome → told ≢ Value bytes
made_no_value cause (Ok group) told bytes is value = let same : GroupMade group ≡ Value bytes = sym is ∙ value in cc
made_no_value cause (Err refusal) told bytes is value = let same : Refused (cause refusal) ≡ Value bytes = sym is ∙ value in cc

pub asked_put : {A : Type 0} (command : CodeCommand A) (key value k v : List ℕ) → command ≡ code.Put key value → k ≡ key → v ≡ value
    → command_of command ≡ Put k v
asked_put command key value k v is same_key same_value = rw (is, same_key, same_value) refl
