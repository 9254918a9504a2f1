-- A run that goes on by one request.
use Rattle.std.proofs.Common.{◌≡◌, ◌∙◌, ℕ, Bool, ◌+◌, ◌<◌, List, [], ◌∷◌, ◌++◌, length, take, get_or, sym, ap, subst}
use Rattle.std.proofs.lemmas.List.{map-append, take_more}
use Rattle.machine.specs.State.{State}
use Rattle.machine.specs.Reply.{ReplyValue}
use Rattle.machine.specs.Requests.{RequestValue, request_value, request_values}
use Rattle.machine.specs.Runs.{MayReply, moved, Run, after_a_stop, after_a_stop_of_run}
use Rattle.machine.specs.declared.request.Request.{Request}

pub run_more : (s : Bool) (m n : State) (qs : List RequestValue) (rs : List ReplyValue) (q : RequestValue) (r : ReplyValue)
    → Run s m qs rs n → MayReply s n q r → Run s m (qs ++ q ∷ []) (rs ++ r ∷ []) (moved n q r)
run_more s m n [] [] q r e may = (subst (λ k. MayReply s k q r) e may, ap (λ k. moved k q r) e)
run_more s m n [] (t ∷ rs) q r e may = absurd e
run_more s m n (p ∷ qs) [] q r e may = absurd e
run_more s m n (p ∷ qs) (t ∷ rs) q r e may = (e.0, run_more s (moved m p t) n qs rs q r e.1 may)

pub requests_more : (requests : List Request) (i : ℕ) (request : Request) → i < length requests → request ≡ get_or requests i request
    → request_values (take (i + 1) requests) ≡ request_values (take i requests) ++ request_value request ∷ []
requests_more requests i request lt is =
    ap request_values (take_more requests i request lt) ∙ map-append request_value (take i requests) (get_or requests i request ∷ [])
    ∙ ap (λ (q : Request). request_values (take i requests) ++ request_value q ∷ []) (sym is)

pub left_more : (s : Bool) (m n : State) (states : List State) (qs : List RequestValue) (rs : List ReplyValue) (q : RequestValue) (r : ReplyValue)
    → Run s m qs rs n → after_a_stop_of_run m states (qs ++ q ∷ []) (rs ++ r ∷ []) ≡ after_a_stop n (after_a_stop_of_run m states qs rs) q r
left_more s m n states [] [] q r e = ap (λ k. after_a_stop k states q r) (sym e)
left_more s m n states [] (t ∷ rs) q r e = absurd e
left_more s m n states (p ∷ qs) [] q r e = absurd e
left_more s m n states (p ∷ qs) (t ∷ rs) q r e = left_more s (moved m p t) n (after_a_stop m states p t) qs rs q r e.1
