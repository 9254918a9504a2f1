-- What a refusal of an index is answered, and what it leaves of the machine's states.
use Rattle.std.proofs.Common.{◌≡◌, ◌++◌, [], ◌∷◌, Bool, true, ℕ, List, Some, inl, inr, refl, sym, subst}
use Rattle.machine.specs.State.{State}
use Rattle.machine.specs.Machine.{after}
use Rattle.machine.specs.Reply.{ReplyValue}
use Rattle.machine.specs.Requests.{CommandValue, RequestValue, command}
use Rattle.machine.specs.Runs.{KnowsReply, MayReply, no_memory, no_store, after_a_stop, moved}
use Rattle.desk.specs.Steps.Indexes.{refused_by}
use Rattle.desk.specs.declared.index.IndexFault.{IndexFault}
use Rattle.desk.specs.declared.index.IndexFault.TheVariants.{Refused, Memory}

module _ (m : State) (c : CommandValue) (r : ReplyValue) where
  pub stays : (P : State → Type 0) (fault : IndexFault) → r ≡ refused_by fault → P m → P (moved m (command c) r)
  stays P Refused is p = subst (λ (s : ReplyValue). P (moved m (command c) s)) (sym is) p
  stays P Memory is p = subst (λ (s : ReplyValue). P (moved m (command c) s)) (sym is) p

  pub leaves : (P : List State → Type 0) (states : List State) (fault : IndexFault) → r ≡ refused_by fault → P (states ++ after m c ∷ []) → P (after_a_stop m states (command c) r)
  leaves P states Refused is p = subst (λ (s : ReplyValue). P (after_a_stop m states (command c) s)) (sym is) p
  leaves P states Memory is p = subst (λ (s : ReplyValue). P (after_a_stop m states (command c) s)) (sym is) p

pub refused_reply : (s : Bool) (m : State) (q : RequestValue) (r : ReplyValue) (fault : IndexFault) → r ≡ refused_by fault → (fault ≡ Refused → s ≡ true) → MayReply s m q r
refused_reply s m q r Refused is may = subst (MayReply s m q) (sym is) (no_store (may refl))
refused_reply s m q r Memory is may = subst (MayReply s m q) (sym is) no_memory

pub refused_known : (s : Bool) (m : State) (project key : List ℕ) (r : ReplyValue) (fault : IndexFault) → r ≡ refused_by fault → (fault ≡ Refused → s ≡ true)
    → KnowsReply s m project key (Some r)
refused_known s m project key r Refused is may = inr (inr (may refl, is))
refused_known s m project key r Memory is may = inr (inl is)
