-- What the reader takes from the text of a reply, and which replies it takes.
use Rattle.std.proofs.Common.{◌≡◌, ℕ, zero, suc, ◌+◌, ◌^◌, ◌<◌, ◌≤◌, Bool, true, false, List, [], ◌∷◌, ◌++◌, length, drop, Option, Some, None, refl, sym, ◌∙◌, ap, subst, append_assoc, append-nil, length-append, length-drop, arith, decimal}
use Rattle.std.specs.Prelude.{ℤ, option_map, option_and_then, if◌then◌else◌, codes}
use Rattle.std.specs.List.{flat_map, AllByRecursion}
use Rattle.std.specs.Str.{bytes_eq}
use Rattle.std.proofs.lemmas.Fmt.{decimal_nonempty}
use Rattle.cli_words.specs.Text.{AreUnits}
use Rattle.host_events.specs.declared.event.Datum.{Datum}
use Rattle.host_events.specs.declared.event.Datum.TheVariants as values
use Rattle.host_events.specs.declared.reply.Reply.{Reply}
use Rattle.host_events.specs.declared.reply.Reply.TheVariants as replies
use Rattle.host_events.specs.Reserved.{Reserved, sealed}
use Rattle.host_report.specs.FieldReading.{number_read, int_read, long_read}
use Rattle.std.specs.Fmt.{signed_decimal}
use Rattle.host_report.specs.Quote.{quoted}
use Rattle.host_report.specs.Fields.{AreFields, fields_text, front_text, spaced}
use Rattle.host_report.specs.Keyword.{keyword_read, beside}
use Rattle.host_report.specs.Printable.{IsStored, IsSealed, IsPrintableReply}
use Rattle.host_report.specs.Reading.{IsTail, then_read}
use Rattle.host_report.specs.ReplyReading.{named_value, value_read, numbers_within, numbers_read, plain_replies, replies_of_one, reply_of_one, numbered_reply, named_reply, reply_read}
use Rattle.host_report.specs.Table.{reply_fields, text_value, value_fields}
use Rattle.host_report.specs.TextReading.{units_read}
use Rattle.host_report.proofs.FieldReadingLemmas.{number_spelled, number_in_range, int_spelled, int_in_range, long_spelled, long_in_range}
use Rattle.host_report.proofs.TextReadingLemmas.{units_spelled, units_in_range}
use Rattle.host_report.proofs.GivesLemmas.{Gives, GivesFirst, fronted, gives_any, gives_some, gives_none, gives_if, gives_then, gives_map, gives_and_then, gives_beside}
use Rattle.host_report.proofs.KeywordLemmas.{is_keyword, worded, number_shorter}
use Rattle.host_report.proofs.TextThenLemmas.{text_then, then_text}

-- what the fields give
pub number_given : (text : List ℕ) → GivesFirst (λ (n : ℕ). n < 2 ^ 32) (number_read text)
number_given text = record { each = λ n rest e. number_in_range text n rest e }

pub units_given : (text : List ℕ) → GivesFirst AreUnits (units_read text)
units_given text = record { each = units_in_range text }

-- a value that stands in a text
abbrev pub IsValue : {T : Type 0} → (T → List ℕ) → (T → Type 0) → Datum T → Type 0
IsValue units_of IsText value = AreFields (value_fields units_of value) × IsStored IsText value

pub value_tail : {T : Type 0} (units_of : T → List ℕ) (value : Datum T) (tail : List ℕ) →
    IsTail (text_then (value_fields units_of value) tail)
value_tail units_of (values.I4 number) tail = refl
value_tail units_of (values.I8 number) tail = refl
value_tail units_of (values.N number) tail = refl
value_tail units_of (values.S text) tail = refl
value_tail units_of values.Null tail = refl
value_tail units_of values.Ref tail = refl

pub value_spelled : {T : Type 0} (text_of : List ℕ → T) (units_of : T → List ℕ) (IsText : T → Type 0) →
    ((text : T) → IsText text → text_of (units_of text) ≡ text) →
    (value : Datum T) (tail : List ℕ) → IsValue units_of IsText value → IsTail tail →
    value_read text_of (drop 1 (text_then (value_fields units_of value) tail)) ≡ Some (value, drop 1 tail)
value_spelled {T = K} text_of units_of IsText same (values.I4 number) tail (fields, stored) ends =
    let next : ℤ → List ℕ → Option (Datum K × List ℕ) = λ number rest. Some (values.I4 number, rest) in
    worded (codes "i4") (spaced (signed_decimal number) ++ tail) (named_value text_of) refl refl
    ∙ ap (λ read. then_read read next) (int_spelled number tail fields.1.0 ends)
value_spelled {T = K} text_of units_of IsText same (values.I8 number) tail (fields, stored) ends =
    let next : ℤ → List ℕ → Option (Datum K × List ℕ) = λ number rest. Some (values.I8 number, rest) in
    worded (codes "i8") (spaced (signed_decimal number) ++ tail) (named_value text_of) refl refl
    ∙ ap (λ read. then_read read next) (long_spelled number tail fields.1.0 ends)
value_spelled {T = K} text_of units_of IsText same (values.N number) tail (fields, stored) ends =
    let next : ℤ → List ℕ → Option (Datum K × List ℕ) = λ number rest. Some (values.N number, rest) in
    worded (codes "n") (spaced (signed_decimal number) ++ tail) (named_value text_of) refl refl
    ∙ ap (λ read. then_read read next) (long_spelled number tail fields.1.0 ends)
value_spelled {T = K} text_of units_of IsText same (values.S text) tail (fields, stored) ends =
    let next : List ℕ → List ℕ → Option (Datum K × List ℕ) = λ units rest. Some (values.S (text_of units), rest) in
    worded (codes "s") (spaced (quoted (units_of text)) ++ tail) (named_value text_of) refl refl
    ∙ ap (λ read. then_read read next) (units_spelled (units_of text) tail fields.1.0)
    ∙ ap (λ (text : K). Some (values.S text, drop 1 tail)) (same text stored)
value_spelled text_of units_of IsText same values.Null tail (fields, stored) ends =
    worded (codes "null") tail (named_value text_of) refl ends
value_spelled text_of units_of IsText same values.Ref tail (fields, stored) ends = absurd stored

pub value_given : {T : Type 0} (text_of : List ℕ → T) (units_of : T → List ℕ) (IsText : T → Type 0) →
    ((units : List ℕ) → units_of (text_of units) ≡ units) → ((units : List ℕ) → IsText (text_of units)) →
    (text : List ℕ) → GivesFirst (IsValue units_of IsText) (value_read text_of text)
value_given {T = K} text_of units_of IsText same is text =
    fronted (gives_then (keyword_read text) (named_value text_of) gives_any (λ kind rest _.
    gives_if (bytes_eq kind (codes "s"))
    (gives_then (units_read rest) (λ units rest. Some (values.S (text_of units), rest)) (units_given rest) (λ units rest are.
    gives_some _ (values.S (text_of units), rest) ((tt, (subst AreUnits (sym (same units)) are, tt)), is units)))
    (gives_if (bytes_eq kind (codes "i4"))
    (gives_then (int_read rest) (λ number rest. Some (values.I4 number, rest)) (record { each = int_in_range rest }) (λ number rest fits.
    gives_some _ (values.I4 number, rest) ((tt, (fits, tt)), tt)))
    (gives_if (bytes_eq kind (codes "i8"))
    (gives_then (long_read rest) (λ number rest. Some (values.I8 number, rest)) (record { each = long_in_range rest }) (λ number rest fits.
    gives_some _ (values.I8 number, rest) ((tt, (fits, tt)), tt)))
    (gives_if (bytes_eq kind (codes "n"))
    (gives_then (long_read rest) (λ number rest. Some (values.N number, rest)) (record { each = long_in_range rest }) (λ number rest fits.
    gives_some _ (values.N number, rest) ((tt, (fits, tt)), tt)))
    (gives_if (bytes_eq kind (codes "null"))
    (gives_some _ (values.Null, rest) ((tt, tt), tt))
    (gives_none _)))))))

-- numbers, each after one space
abbrev pub numbers_text : List ℕ → List ℕ
numbers_text numbers = flat_map (λ number. spaced (decimal number)) numbers ++ []

abbrev pub AreSmall : List ℕ → Type 0
AreSmall numbers = AllByRecursion (λ number. number < 2 ^ 32) numbers

pub numbers_tail : (numbers : List ℕ) → IsTail (numbers_text numbers)
numbers_tail [] = tt
numbers_tail (number ∷ numbers) = refl

numbers_step : (most : ℕ) (text : List ℕ) → 0 < length text →
    numbers_within (suc most) text
    ≡ then_read (number_read text) (λ number rest. option_map (λ numbers. number ∷ numbers) (numbers_within most rest))
numbers_step most [] some = absurd (omega arith)
numbers_step most (byte ∷ bytes) some = refl

numbers_parted : (number : ℕ) (numbers : List ℕ) →
    drop 1 (numbers_text (number ∷ numbers)) ≡ decimal number ++ numbers_text numbers
numbers_parted number numbers =
    append_assoc (decimal number) (flat_map (λ number. spaced (decimal number)) numbers) []

-- the first number, and those after it
within_parted : (most number : ℕ) (numbers : List ℕ) → number < 2 ^ 32 → 0 < length (decimal number) →
    ((least : ℕ) → length (drop 1 (numbers_text numbers)) ≤ least → numbers_within least (drop 1 (numbers_text numbers)) ≡ Some numbers) →
    length (decimal number) + length (numbers_text numbers) ≤ most →
    numbers_within most (decimal number ++ numbers_text numbers) ≡ Some (number ∷ numbers)
within_parted zero number numbers small some after long = absurd (omega arith)
within_parted (suc most) number numbers small some after long =
    let text = decimal number ++ numbers_text numbers in
    let whole : length text ≡ length (decimal number) + length (numbers_text numbers) = length-append (decimal number) (numbers_text numbers) in
    let fewer : length (drop 1 (numbers_text numbers)) ≤ most = omega (arith, length-drop 1 (numbers_text numbers)) in
    numbers_step most text (omega arith)
    ∙ ap (λ read. then_read read (λ number rest. option_map (λ numbers. number ∷ numbers) (numbers_within most rest)))
    (number_spelled number (numbers_text numbers) small (numbers_tail numbers))
    ∙ ap (option_map (λ numbers. number ∷ numbers)) (after most fewer)

within_spelled : (most : ℕ) (numbers : List ℕ) → AreSmall numbers → length (drop 1 (numbers_text numbers)) ≤ most →
    numbers_within most (drop 1 (numbers_text numbers)) ≡ Some numbers
within_spelled most [] small long = refl
within_spelled most (number ∷ numbers) small long =
    ap (numbers_within most) (numbers_parted number numbers)
    ∙ within_parted most number numbers small.0 (decimal_nonempty number (omega (arith, small.0)))
    (λ least. within_spelled least numbers small.1)
    (omega (arith, subst (λ text. length text ≤ most) (numbers_parted number numbers) long, length-append (decimal number) (numbers_text numbers)))

pub numbers_spelled : (numbers : List ℕ) → AreSmall numbers →
    numbers_read (drop 1 (numbers_text numbers)) ≡ Some numbers
unfolding numbers_read
numbers_spelled numbers small = within_spelled (length (drop 1 (numbers_text numbers))) numbers small (omega arith)

-- so many numbers as the text has room for are enough
within_enough : (most more : ℕ) (text : List ℕ) → length text ≤ most → length text ≤ more →
    numbers_within most text ≡ numbers_within more text
within_enough most more [] long longer = refl
within_enough zero more (byte ∷ bytes) long longer = absurd (omega arith)
within_enough (suc most) zero (byte ∷ bytes) long longer = absurd (omega arith)
within_enough (suc most) (suc more) (byte ∷ bytes) long longer =
    same (number_read (byte ∷ bytes)) (λ n rest read.
    let shorter = number_shorter (byte ∷ bytes) n rest (omega arith) read in
    within_enough most more rest (omega arith) (omega arith))
  where
    same : (read : Option (ℕ × List ℕ)) →
        ((n : ℕ) (rest : List ℕ) → read ≡ Some (n, rest) → numbers_within most rest ≡ numbers_within more rest) →
        then_read read (λ number rest. option_map (λ numbers. number ∷ numbers) (numbers_within most rest))
        ≡ then_read read (λ number rest. option_map (λ numbers. number ∷ numbers) (numbers_within more rest))
    same None after = refl
    same (Some read) after = ap (option_map (λ numbers. read.0 ∷ numbers)) (after read.0 read.1 refl)

-- the numbers of a text are the first and those behind it
pub numbers_next : (text : List ℕ) (n : ℕ) (rest : List ℕ) → 0 < length text → number_read text ≡ Some (n, rest) →
    numbers_read text ≡ option_map (λ numbers. n ∷ numbers) (numbers_read rest)
unfolding numbers_read
numbers_next [] n rest some read = absurd (omega arith)
numbers_next (byte ∷ bytes) n rest some read =
    let next : ℕ → List ℕ → Option (List ℕ) = λ number rest. option_map (λ numbers. number ∷ numbers) (numbers_within (length bytes) rest) in
    ap (λ read. then_read read next) read
    ∙ ap (option_map (λ numbers. n ∷ numbers))
    (within_enough (length bytes) (length rest) rest (omega (arith, number_shorter (byte ∷ bytes) n rest some read)) (omega arith))

pub numbers_missed : (text : List ℕ) → 0 < length text → number_read text ≡ None → numbers_read text ≡ None
unfolding numbers_read
numbers_missed [] some read = absurd (omega arith)
numbers_missed (byte ∷ bytes) some read =
    let next : ℕ → List ℕ → Option (List ℕ) = λ number rest. option_map (λ numbers. number ∷ numbers) (numbers_within (length bytes) rest) in
    ap (λ read. then_read read next) read

pub numbers_end : (text : List ℕ) → length text ≡ 0 → numbers_read text ≡ Some []
unfolding numbers_read
numbers_end [] none = refl
numbers_end (byte ∷ bytes) none = absurd (omega arith)

-- those that were read before, and those of the rest
pub numbers_more : (before : List ℕ) (n : ℕ) (there : Option (List ℕ)) →
    option_map (λ numbers. before ++ numbers) (option_map (λ numbers. n ∷ numbers) there)
    ≡ option_map (λ numbers. (before ++ n ∷ []) ++ numbers) there
numbers_more before n None = refl
numbers_more before n (Some numbers) = ap (λ numbers. Some numbers) (sym (append_assoc before (n ∷ []) numbers))

within_given : (most : ℕ) (text : List ℕ) → Gives AreSmall (numbers_within most text)
within_given most [] = gives_some AreSmall [] tt
within_given zero (byte ∷ bytes) = gives_none AreSmall
within_given (suc most) (byte ∷ bytes) =
    gives_then (number_read (byte ∷ bytes)) (λ number rest. option_map (λ numbers. number ∷ numbers) (numbers_within most rest))
    (number_given (byte ∷ bytes)) (λ number rest small.
    gives_map (numbers_within most rest) (λ numbers. number ∷ numbers) (within_given most rest) (λ numbers all. (small, all)))

pub numbers_given : (text : List ℕ) → Gives AreSmall (numbers_read text)
unfolding numbers_read
numbers_given text = within_given (length text) text

-- a reply of a word and numbers
by_numbers : (word numbers : List ℕ) → is_keyword word ≡ true → bytes_eq word (codes "Value") ≡ false →
    bytes_eq word (codes "Freed") ≡ false → AreSmall numbers →
    reply_read (word ++ numbers_text numbers) ≡ numbered_reply word numbers
unfolding reply_read
by_numbers word numbers known no_value not_freed small =
    let text = drop 1 (numbers_text numbers) in
    let value : Option Reply = then_read (value_read sealed text) (λ value rest. Some (replies.Value value)) in
    let freed : Option Reply = option_map (λ numbers. replies.Freed (sealed numbers)) (numbers_read text) in
    let other : Option Reply = option_and_then (numbered_reply word) (numbers_read text) in
    worded word (numbers_text numbers) named_reply known (numbers_tail numbers)
    ∙ ap (λ (test : Bool). if test then value else (if bytes_eq word (codes "Freed") then freed else other)) no_value
    ∙ ap (λ (test : Bool). if test then freed else other) not_freed
    ∙ ap (option_and_then (numbered_reply word)) (numbers_spelled numbers small)

sealed_is : {T : Type 0} (list : Reserved T) → IsSealed list → sealed list.list ≡ list
sealed_is list is = ap (λ (spare : ℕ). record { list = list.list; spare = spare }) (sym is)

value_reply : (value : Datum (Reserved ℕ)) → IsValue (λ text. text.list) IsSealed value →
    then_read (value_read sealed (drop 1 (text_then (value_fields (λ text. text.list) value) []))) (λ value rest. Some (replies.Value value))
    ≡ Some (replies.Value value)
value_reply value is =
    ap (λ read. then_read read (λ value rest. Some (replies.Value value)))
    (value_spelled sealed (λ text. text.list) IsSealed sealed_is value [] is tt)

freed_reply : (contexts : Reserved ℕ) → AreSmall contexts.list → IsSealed contexts →
    option_map (λ numbers. replies.Freed (sealed numbers)) (numbers_read (drop 1 (numbers_text contexts.list)))
    ≡ Some (replies.Freed contexts)
freed_reply contexts small is =
    ap (option_map (λ numbers. replies.Freed (sealed numbers))) (numbers_spelled contexts.list small)
    ∙ ap (λ list. Some (replies.Freed list)) (sealed_is contexts is)

value_text : (value : Datum (Reserved ℕ)) →
    front_text (reply_fields (replies.Value value)) ≡ codes "Value" ++ text_then (value_fields (λ text. text.list) value) []
value_text value = ap (λ text. codes "Value" ++ text) (sym (append-nil (fields_text (text_value value))) ∙ then_text (text_value value) [])

-- a reply is read from its text
pub reply_spelled : (reply : Reply) → IsPrintableReply reply → reply_read (front_text (reply_fields reply)) ≡ Some reply
unfolding reply_read
reply_spelled (replies.Exists c) is = by_numbers (codes "Exists") (c ∷ []) refl refl refl is.0.1.0
reply_spelled (replies.Made c) is = by_numbers (codes "Made") (c ∷ []) refl refl refl is.0.1.0
reply_spelled replies.NoContext is = by_numbers (codes "NoContext") [] refl refl refl tt
reply_spelled (replies.Unloading c) is = by_numbers (codes "Unloading") (c ∷ []) refl refl refl is.0.1.0
reply_spelled (replies.Set c) is = by_numbers (codes "Set") (c ∷ []) refl refl refl is.0.1.0
reply_spelled (replies.Entered k c) is = by_numbers (codes "Entered") (k ∷ c ∷ []) refl refl refl is.0.1.0
reply_spelled replies.NoHandle is = by_numbers (codes "NoHandle") [] refl refl refl tt
reply_spelled (replies.EnteredAt k c a m) is = by_numbers (codes "EnteredAt") (k ∷ c ∷ a ∷ m ∷ []) refl refl refl is.0.1.0
reply_spelled replies.Miss is = by_numbers (codes "Miss") [] refl refl refl tt
reply_spelled (replies.Hit a) is = by_numbers (codes "Hit") (a ∷ []) refl refl refl is.0.1.0
reply_spelled (replies.Low a) is = by_numbers (codes "Low") (a ∷ []) refl refl refl is.0.1.0
reply_spelled (replies.Image i) is = by_numbers (codes "Image") (i ∷ []) refl refl refl is.0.1.0
reply_spelled (replies.Foreign a) is = by_numbers (codes "Foreign") (a ∷ []) refl refl refl is.0.1.0
reply_spelled replies.Nothing is = by_numbers (codes "Nothing") [] refl refl refl tt
reply_spelled (replies.Lost a) is = by_numbers (codes "Lost") (a ∷ []) refl refl refl is.0.1.0
reply_spelled (replies.NotCollectible a) is = by_numbers (codes "NotCollectible") (a ∷ []) refl refl refl is.0.1.0
reply_spelled (replies.Shared a) is = by_numbers (codes "Shared") (a ∷ []) refl refl refl is.0.1.0
reply_spelled (replies.Bound a) is = by_numbers (codes "Bound") (a ∷ []) refl refl refl is.0.1.0
reply_spelled (replies.Placed c) is = by_numbers (codes "Placed") (c ∷ []) refl refl refl is.0.1.0
reply_spelled (replies.Value value) is =
    ap reply_read (value_text value)
    ∙ worded (codes "Value") (text_then (text_value value) []) named_reply refl (value_tail (λ text. text.list) value [])
    ∙ value_reply value (is.0.1, is.1)
reply_spelled replies.Stored is = by_numbers (codes "Stored") [] refl refl refl tt
reply_spelled replies.InUse is = by_numbers (codes "InUse") [] refl refl refl tt
reply_spelled (replies.Held c) is = by_numbers (codes "Held") (c ∷ []) refl refl refl is.0.1.0
reply_spelled replies.Dropped is = by_numbers (codes "Dropped") [] refl refl refl tt
reply_spelled (replies.Weakly c) is = by_numbers (codes "Weakly") (c ∷ []) refl refl refl is.0.1.0
reply_spelled (replies.Alive c) is = by_numbers (codes "Alive") (c ∷ []) refl refl refl is.0.1.0
reply_spelled (replies.Gone c) is = by_numbers (codes "Gone") (c ∷ []) refl refl refl is.0.1.0
reply_spelled (replies.Fixed c) is = by_numbers (codes "Fixed") (c ∷ []) refl refl refl is.0.1.0
reply_spelled (replies.Already c) is = by_numbers (codes "Already") (c ∷ []) refl refl refl is.0.1.0
reply_spelled (replies.Freed contexts) is =
    worded (codes "Freed") (numbers_text contexts.list) named_reply refl (numbers_tail contexts.list)
    ∙ freed_reply contexts is.0.1.0 is.1
reply_spelled replies.Left is = by_numbers (codes "Left") [] refl refl refl tt

-- what a word and numbers make can be printed
plain_given : (name : List ℕ) → Gives IsPrintableReply (beside name plain_replies)
plain_given name =
    gives_beside IsPrintableReply plain_replies name (
      ((tt, (tt, tt)), tt),
      (
        ((tt, (tt, tt)), tt),
        (
          ((tt, (tt, tt)), tt),
          (
            ((tt, (tt, tt)), tt),
            (
              ((tt, (tt, tt)), tt),
              (
                ((tt, (tt, tt)), tt),
                (
                  ((tt, (tt, tt)), tt),
                  (
                    ((tt, (tt, tt)), tt),
                    tt,
                  ),
                ),
              ),
            ),
          ),
        ),
      ),
    )

one_given : (name : List ℕ) (n : ℕ) → n < 2 ^ 32 → Gives IsPrintableReply (reply_of_one name n)
one_given name n small =
    let fine : AllByRecursion (λ (row : List ℕ × (ℕ → Reply)). IsPrintableReply (row.1 n)) replies_of_one = (
      ((tt, ((small, tt), tt)), tt),
      (
        ((tt, ((small, tt), tt)), tt),
        (
          ((tt, ((small, tt), tt)), tt),
          (
            ((tt, ((small, tt), tt)), tt),
            (
              ((tt, ((small, tt), tt)), tt),
              (
                ((tt, ((small, tt), tt)), tt),
                (
                  ((tt, ((small, tt), tt)), tt),
                  (
                    ((tt, ((small, tt), tt)), tt),
                    (
                      ((tt, ((small, tt), tt)), tt),
                      (
                        ((tt, ((small, tt), tt)), tt),
                        (
                          ((tt, ((small, tt), tt)), tt),
                          (
                            ((tt, ((small, tt), tt)), tt),
                            (
                              ((tt, ((small, tt), tt)), tt),
                              (
                                ((tt, ((small, tt), tt)), tt),
                                (
                                  ((tt, ((small, tt), tt)), tt),
                                  (
                                    ((tt, ((small, tt), tt)), tt),
                                    (
                                      ((tt, ((small, tt), tt)), tt),
                                      (
                                        ((tt, ((small, tt), tt)), tt),
                                        (
                                          ((tt, ((small, tt), tt)), tt),
                                          tt,
                                        ),
                                      ),
                                    ),
                                  ),
                                ),
                              ),
                            ),
                          ),
                        ),
                      ),
                    ),
                  ),
                ),
              ),
            ),
          ),
        ),
      ),
    ) in
    gives_map (beside name replies_of_one) (λ reply. reply n)
    (gives_beside (λ (reply : ℕ → Reply). IsPrintableReply (reply n)) replies_of_one name fine) (λ reply is. is)

numbered_given : (name numbers : List ℕ) → AreSmall numbers → Gives IsPrintableReply (numbered_reply name numbers)
numbered_given name [] small = plain_given name
numbered_given name (number ∷ []) small = one_given name number small.0
numbered_given name (operation ∷ context ∷ []) small =
    gives_if (bytes_eq name (codes "Entered")) (gives_some _ (replies.Entered operation context) ((tt, (small, tt)), tt)) (gives_none _)
numbered_given name (operation ∷ context ∷ assembly ∷ []) small = gives_none _
numbered_given name (operation ∷ context ∷ assembly ∷ method ∷ []) small =
    gives_if (bytes_eq name (codes "EnteredAt"))
    (gives_some _ (replies.EnteredAt operation context assembly method) ((tt, (small, tt)), tt)) (gives_none _)
numbered_given name (operation ∷ context ∷ assembly ∷ method ∷ more ∷ numbers) small = gives_none _

-- a reply that is read can be printed
pub reply_given : (text : List ℕ) → Gives IsPrintableReply (reply_read text)
unfolding reply_read
reply_given text =
    gives_then (keyword_read text) named_reply gives_any (λ name rest _.
    gives_if (bytes_eq name (codes "Value"))
    (gives_then (value_read sealed rest) (λ value rest. Some (replies.Value value))
    (value_given sealed (λ text. text.list) IsSealed (λ units. refl) (λ units. refl) rest) (λ value rest is.
    gives_some _ (replies.Value value) ((tt, is.0), is.1)))
    (gives_if (bytes_eq name (codes "Freed"))
    (gives_map (numbers_read rest) (λ numbers. replies.Freed (sealed numbers)) (numbers_given rest) (λ numbers small.
    ((tt, (small, tt)), refl)))
    (gives_and_then (numbers_read rest) (numbered_reply name) (numbers_given rest) (numbered_given name))))
