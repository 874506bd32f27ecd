-- How replies are written.
use Rattle.std.specs.Prelude.{ℕ, List, ◌++◌, Ok, Err, Result, codes, decimal}
use Rattle.terms.specs.Numbers.{refusal_number, cause_number, kind_number}
use Rattle.terms.specs.declared.outcome.Answer.{Answer}
use Rattle.terms.specs.declared.outcome.Answer.TheVariants.{Found, Absent, Added, Present, NoRoom}
use Rattle.terms.specs.declared.outcome.Clash.{Clash}
use Rattle.terms.specs.declared.outcome.Outcome.{Outcome}
use Rattle.terms.specs.declared.outcome.Outcome.TheVariants.{Go, Again, Answered}
use Rattle.terms.specs.declared.Refusal.{Refusal}
use Rattle.script.specs.declared.reply.Done.{Done}
use Rattle.script.specs.declared.reply.Done.TheVariants.{Accepted, Stepped, Swept}

abbrev pub answer_words : Answer → List ℕ
answer_words (Found v) = codes "found " ++ decimal v
answer_words Absent = codes "absent"
answer_words Added = codes "added"
answer_words (Present v) = codes "present " ++ decimal v
answer_words (NoRoom k) = codes "noroom " ++ decimal (kind_number k)

abbrev pub clash_words : Clash → List ℕ
clash_words c =
    codes "again " ++ (decimal (cause_number c.cause) ++ (codes " " ++ (decimal (kind_number c.kind) ++ (codes " " ++ (decimal c.slot ++ (codes " " ++ decimal c.depth))))))

abbrev pub step_words : Outcome → List ℕ
step_words Go = codes "go"
step_words (Again c) = clash_words c
step_words (Answered a) = answer_words a

abbrev pub Reply : Type 0
Reply = Result Done Refusal

abbrev pub words_of : Reply → List ℕ
words_of (Ok Accepted) = codes "ok"
words_of (Ok (Stepped o)) = step_words o
words_of (Ok (Swept n)) = codes "swept " ++ decimal n
words_of (Err e) = codes "no " ++ decimal (refusal_number e)

-- the output line of a reply to a script line
abbrev pub line_of : ℕ → Reply → List ℕ
line_of n r = decimal n ++ (codes " " ++ words_of r)
