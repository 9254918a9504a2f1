use Rattle.std.proofs.Common.{◌∙◌, ap}
use Rattle.lsif.specs.Element.{id_value}
use Rattle.flatten.specs.Steps.Chains.{along_value}
use Rattle.flatten.proofs.ChainWalks.{back_step}
use Rattle.flatten.proofs.chains.Chains.kept_along.Goals as goal

pub keep-requires-clause-along : goal.keep-requires-clause-along
keep-requires-clause-along c =
    let f = c.loop-member.self in
    let s = c.args.self.now in
    let r = back_step (λ i. id_value i.now) f.dump.now.elements s.dump.now.elements s.borne.items f.borne.items c.deref.result.now (id_value c.args.vertex.now) c.loop-member.path.items c.pop.new.self.items c.in-Some.member
    (along_value c.loop-member.along) (along_value c.own_of.result) (along_value c.or_later-along.result)
    (ap (λ r. r.now.elements) c.loop-member.invariant.2) (ap (λ v. v.items) c.loop-member.invariant.3) c.deref.ensures.value c.in-Some.ensures.items c.own_of.ensures c.or_later-along.ensures c.loop-member.invariant.0 in
    r.0

pub loop-member-preserved : goal.loop-member-preserved
loop-member-preserved c =
    let f = c.loop-member.self in
    let s = c.args.self.now in
    let r = back_step (λ i. id_value i.now) f.dump.now.elements s.dump.now.elements s.borne.items f.borne.items c.deref.result.now (id_value c.args.vertex.now) c.loop-member.path.items c.pop.new.self.items c.in-Some.member
    (along_value c.loop-member.along) (along_value c.own_of.result) (along_value c.or_later-along.result)
    (ap (λ r. r.now.elements) c.loop-member.invariant.2) (ap (λ v. v.items) c.loop-member.invariant.3) c.deref.ensures.value c.in-Some.ensures.items c.own_of.ensures c.or_later-along.ensures c.loop-member.invariant.0 in
    (r.1, c.in_ok-keep.ensures.chains, c.in_ok-keep.ensures.dump ∙ c.loop-member.invariant.2, c.in_ok-keep.ensures.borne ∙ c.loop-member.invariant.3)
