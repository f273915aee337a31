use Rattle.std.proofs.Common.{refl, subst, map, string_bytes}
use Rattle.alc_program.specs.Verb.{request_of}
use Rattle.alc_program.specs.Words.{Asks}
use Rattle.alc_program.specs.Words.Request.{steps, inspect}
use Rattle.alc_program.specs.declared.words.Verb.{Verb}
use Rattle.alc_program.proofs.HeadlineLemmas.{answers_asked, answers_unasked}
use Rattle.alc_program.proofs.program.alc_alone.Goals as goal

pub steps-requires : goal.steps-requires
steps-requires g c =
    let asks : Asks (map string_bytes c.args.words.now) (steps c.in-Some-Steps.file.now c.in-Some-Steps.schedule.now) =
    subst (λ (verb : Verb). Asks (map string_bytes c.args.words.now) (request_of verb)) c.in-Some-Steps.field-0-is c.in-Some-Steps.ensures.asked in
    asks.1

pub returns-in-Some-Steps-clause-headline : goal.returns-in-Some-Steps-clause-headline
returns-in-Some-Steps-clause-headline g c =
    let asks : Asks (map string_bytes c.args.words.now) (steps c.in-Some-Steps.file.now c.in-Some-Steps.schedule.now) =
    subst (λ (verb : Verb). Asks (map string_bytes c.args.words.now) (request_of verb)) c.in-Some-Steps.field-0-is c.in-Some-Steps.ensures.asked in
    answers_asked _ (steps c.in-Some-Steps.file.now c.in-Some-Steps.schedule.now) _ _ _ asks c.steps.ensures.answer

pub returns-in-Some-Inspect-clause-headline : goal.returns-in-Some-Inspect-clause-headline
returns-in-Some-Inspect-clause-headline g c =
    let asks : Asks (map string_bytes c.args.words.now) (inspect c.in-Some-Inspect.file.now) =
    subst (λ (verb : Verb). Asks (map string_bytes c.args.words.now) (request_of verb)) c.in-Some-Inspect.field-0-is c.in-Some-Inspect.ensures.asked in
    answers_asked _ (inspect c.in-Some-Inspect.file.now) _ _ _ asks c.inspect.ensures.answer

pub returns-in-None-clause-headline : goal.returns-in-None-clause-headline
returns-in-None-clause-headline g c = answers_unasked _ _ _ c.in-None.ensures.none (refl, refl) (refl, refl)
