use Rattle.std.proofs.Common.{true, length, Ok, Result, refl, ap, ◌∙◌, arith}
use Rattle.std.proofs.lemmas.Result.{err_from_is_err_and}
use Rattle.std.specs.Result.{result_and}
use Rattle.terms.specs.declared.Refusal.{Refusal}
use Rattle.script.specs.declared.header.Header.{Header}
use Rattle.script.specs.declared.reply.Done.TheVariants.{Accepted}
use Rattle.script.specs.Header.{header_of}
use Rattle.player.specs.Histories.{printed, lines_of}
use Rattle.player.proofs.Buffers.{filled_put, cut_put}
use Rattle.player.proofs.Heading.{heads, faulty, line_one, wrote_all, passed_end, played_all, played_part}
use Rattle.player.proofs.ScriptLines.{few_others}
use Rattle.player.proofs.history.history_of.Goals as goal

pub returns-in_err-put-2 : goal.returns-in_err-put-2
returns-in_err-put-2 c =
    let s = c.args.script.now in
    let h = heads c.next.result _ c.unwrap_or.result (lines_of s) (lines_of c.next.new.self.rest.now) c.unwrap_or.ensures refl c.next.ensures.steps in
    let p = err_from_is_err_and c.from_residual-in_err-put-2.result c.from_residual-in_err-put-2.ensures.1 in
    let cut = cut_put c.args.out.now 0 (printed 1 c.and.result) c.put-2.new.out c.put-2.new.place.at c.in_err-put-2.field-0.0 (omega arith) c.in_err-put-2.ensures in
    let one = line_one s c.if-script-gt-LONGEST_SCRIPT.false c.read_header-header.result (c.read_header-header.ensures ∙ ap header_of h.0) in
    rw (p.1, p.2) (cut.0, passed_end {text = printed 1 c.and.result} (rw c.and.ensures one) cut.1)

pub play_named-requires : goal.play_named-requires
play_named-requires c =
    let s = c.args.script.now in
    let h = heads c.next.result _ c.unwrap_or.result (lines_of s) (lines_of c.next.new.self.rest.now) c.unwrap_or.ensures refl c.next.ensures.steps in
    let put = filled_put c.args.out.now 0 (printed 1 c.and.result) c.put-2.new.out c.put-2.new.place.at c.in_ok-put-2.ensures in
    (omega (arith, ap length h.1, few_others s), put.room)

pub returns-in_err-play_named : goal.returns-in_err-play_named
returns-in_err-play_named c =
    let s = c.args.script.now in
    let h = heads c.next.result _ c.unwrap_or.result (lines_of s) (lines_of c.next.new.self.rest.now) c.unwrap_or.ensures refl c.next.ensures.steps in
    let put = filled_put c.args.out.now 0 (printed 1 c.and.result) c.put-2.new.out c.put-2.new.place.at c.in_ok-put-2.ensures in
    let reply = c.and.ensures ∙ ap (λ (r : Result Header Refusal). result_and r (Ok Accepted)) c.in-Ok.is in
    let p = err_from_is_err_and c.from_residual-in_err-play_named.result c.from_residual-in_err-play_named.ensures.1 in
    let added = c.in_err-play_named.ensures in
    rw (p.1, p.2) (added.0, played_part s c.if-script-gt-LONGEST_SCRIPT.false c.in-Ok.header _ (c.in-Ok.ensures ∙ ap header_of h.0) h.1 (rw reply at put) added.1)

pub returns-in_ok-play_named : goal.returns-in_ok-play_named
returns-in_ok-play_named c =
    let s = c.args.script.now in
    let h = heads c.next.result _ c.unwrap_or.result (lines_of s) (lines_of c.next.new.self.rest.now) c.unwrap_or.ensures refl c.next.ensures.steps in
    let put = filled_put c.args.out.now 0 (printed 1 c.and.result) c.put-2.new.out c.put-2.new.place.at c.in_ok-put-2.ensures in
    let reply = c.and.ensures ∙ ap (λ (r : Result Header Refusal). result_and r (Ok Accepted)) c.in-Ok.is in
    played_all s c.if-script-gt-LONGEST_SCRIPT.false c.in-Ok.header _ (c.in-Ok.ensures ∙ ap header_of h.0) h.1 (rw reply at put) c.in_ok-play_named.ensures

pub returns-in_default : goal.returns-in_default
returns-in_default c =
    let s = c.args.script.now in
    let h = heads c.next.result _ c.unwrap_or.result (lines_of s) (lines_of c.next.new.self.rest.now) c.unwrap_or.ensures refl c.next.ensures.steps in
    let put = filled_put c.args.out.now 0 (printed 1 c.and.result) c.put-2.new.out c.put-2.new.place.at c.in_ok-put-2.ensures in
    let reply = c.and.ensures ∙ ap (λ (r : Result Header Refusal). result_and r (Ok Accepted)) c.in_default.is in
    wrote_all (faulty s c.if-script-gt-LONGEST_SCRIPT.false true c.in_default.field-0 (c.in_default.ensures ∙ ap header_of h.0)) (rw reply at put)
