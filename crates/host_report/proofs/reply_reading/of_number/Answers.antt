use Rattle.std.proofs.Common.{ℕ, List, ap}
use Rattle.std.specs.Prelude.{option_map}
use Rattle.host_report.specs.ReplyReading.{replies_of_one, reply_of_one}
use Rattle.host_report.proofs.KeywordLemmas.{beside_none}
use Rattle.host_report.proofs.reply_reading.of_number.Goals as goal

pub returns-in-Exists : goal.returns-in-Exists
returns-in-Exists c = ap (λ (name : List ℕ). reply_of_one name c.args.number) c.in-Exists.is

pub returns-in-Made : goal.returns-in-Made
returns-in-Made c = ap (λ (name : List ℕ). reply_of_one name c.args.number) c.in-Made.is

pub returns-in-Unloading : goal.returns-in-Unloading
returns-in-Unloading c = ap (λ (name : List ℕ). reply_of_one name c.args.number) c.in-Unloading.is

pub returns-in-Set : goal.returns-in-Set
returns-in-Set c = ap (λ (name : List ℕ). reply_of_one name c.args.number) c.in-Set.is

pub returns-in-Hit : goal.returns-in-Hit
returns-in-Hit c = ap (λ (name : List ℕ). reply_of_one name c.args.number) c.in-Hit.is

pub returns-in-Low : goal.returns-in-Low
returns-in-Low c = ap (λ (name : List ℕ). reply_of_one name c.args.number) c.in-Low.is

pub returns-in-Image : goal.returns-in-Image
returns-in-Image c = ap (λ (name : List ℕ). reply_of_one name c.args.number) c.in-Image.is

pub returns-in-Foreign : goal.returns-in-Foreign
returns-in-Foreign c = ap (λ (name : List ℕ). reply_of_one name c.args.number) c.in-Foreign.is

pub returns-in-Lost : goal.returns-in-Lost
returns-in-Lost c = ap (λ (name : List ℕ). reply_of_one name c.args.number) c.in-Lost.is

pub returns-in-NotCollectible : goal.returns-in-NotCollectible
returns-in-NotCollectible c = ap (λ (name : List ℕ). reply_of_one name c.args.number) c.in-NotCollectible.is

pub returns-in-Shared : goal.returns-in-Shared
returns-in-Shared c = ap (λ (name : List ℕ). reply_of_one name c.args.number) c.in-Shared.is

pub returns-in-Bound : goal.returns-in-Bound
returns-in-Bound c = ap (λ (name : List ℕ). reply_of_one name c.args.number) c.in-Bound.is

pub returns-in-Placed : goal.returns-in-Placed
returns-in-Placed c = ap (λ (name : List ℕ). reply_of_one name c.args.number) c.in-Placed.is

pub returns-in-Held : goal.returns-in-Held
returns-in-Held c = ap (λ (name : List ℕ). reply_of_one name c.args.number) c.in-Held.is

pub returns-in-Weakly : goal.returns-in-Weakly
returns-in-Weakly c = ap (λ (name : List ℕ). reply_of_one name c.args.number) c.in-Weakly.is

pub returns-in-Alive : goal.returns-in-Alive
returns-in-Alive c = ap (λ (name : List ℕ). reply_of_one name c.args.number) c.in-Alive.is

pub returns-in-Gone : goal.returns-in-Gone
returns-in-Gone c = ap (λ (name : List ℕ). reply_of_one name c.args.number) c.in-Gone.is

pub returns-in-Fixed : goal.returns-in-Fixed
returns-in-Fixed c = ap (λ (name : List ℕ). reply_of_one name c.args.number) c.in-Fixed.is

pub returns-in-Already : goal.returns-in-Already
returns-in-Already c = ap (λ (name : List ℕ). reply_of_one name c.args.number) c.in-Already.is

pub returns-in_default : goal.returns-in_default
returns-in_default c =
    ap (option_map (λ reply. reply c.args.number)) (beside_none c.args.name.now replies_of_one (
      c.in_default.not-Exists,
      (
        c.in_default.not-Made,
        (
          c.in_default.not-Unloading,
          (
            c.in_default.not-Set,
            (
              c.in_default.not-Hit,
              (
                c.in_default.not-Low,
                (
                  c.in_default.not-Image,
                  (
                    c.in_default.not-Foreign,
                    (
                      c.in_default.not-Lost,
                      (
                        c.in_default.not-NotCollectible,
                        (
                          c.in_default.not-Shared,
                          (
                            c.in_default.not-Bound,
                            (
                              c.in_default.not-Placed,
                              (
                                c.in_default.not-Held,
                                (
                                  c.in_default.not-Weakly,
                                  (
                                    c.in_default.not-Alive,
                                    (
                                      c.in_default.not-Gone,
                                      (
                                        c.in_default.not-Fixed,
                                        (
                                          c.in_default.not-Already,
                                          tt,
                                        ),
                                      ),
                                    ),
                                  ),
                                ),
                              ),
                            ),
                          ),
                        ),
                      ),
                    ),
                  ),
                ),
              ),
            ),
          ),
        ),
      ),
    ))
