-- What the title of a matrix and its lines show of it.
use Rattle.std.proofs.Common.{◌≡◌, Bool, true, false, List, Option, Some, None, Result, Ok, Err, refl, sym, ap, subst}
use Rattle.std.specs.Option.{is_some, option_map, ok_or}
use Rattle.stated_order.specs.Steps.{Then}
use Rattle.stated_order.proofs.StepLaws.{then_gives, then_stops, renamed_refusal}
use Rattle.snx_lines.specs.Lines.{PlainLine}
use Rattle.snx_lines.specs.Framing.{PlainBlock}
use Rattle.snx_rows.specs.Rows.{fault_at}
use Rattle.snx_rows.specs.Blocks.{Answers}
use Rattle.snx_rows.specs.declared.causes.Cause.{Cause}
use Rattle.snx_rows.specs.declared.causes.Cause.TheVariants as causes
use Rattle.snx_rows.specs.declared.causes.LineFault.{LineFault}
use Rattle.snx_rows.specs.declared.causes.DocError.{DocError}
use Rattle.snx_rows.specs.declared.causes.DocError.TheVariants.{Line, Memory}
use Rattle.snx_rows.specs.declared.rows.Row.{Row}
use Rattle.snx_matrices.specs.Elements.{AreElements}
use Rattle.snx_matrices.specs.declared.elements.Cell.{Cell}
use Rattle.snx_matrices.specs.declared.elements.Heading.{Heading}
use Rattle.snx_blocks.specs.Documents.{PlainMatrix, PlainDoc, Headed, once, IsMatrixTitle, IsMatrix}
use Rattle.snx_blocks.specs.Views.{matrix_view}

-- a part is there in the document where it is there in the code
pub seen_alike : {X Y : Type 0} (view : X → Y) (part : Option X) (there : Bool) → there ≡ is_some part → is_some (option_map view part) ≡ there
seen_alike view None there e = sym e
seen_alike view (Some x) there e = sym e

once_repeated : {X : Type 0} (before : Option X) → is_some before ≡ true → once before ≡ Err causes.Repeated
once_repeated None e = cc
once_repeated (Some x) e = refl

once_new : {X : Type 0} (before : Option X) → is_some before ≡ false → once before ≡ Ok tt
once_new None e = refl
once_new (Some x) e = cc

module _ (before : Option PlainMatrix) (rows : Option (List Row)) (heading : Option Heading) (block : PlainBlock) where
  -- ---- the title, step by step
  abbrev IsHeaded : List Row → Heading → Result Headed Cause → Type 0
  IsHeaded given named r = r ≡ Ok (record { heading = named; rows = given })

  abbrev OverRows : List Row → Result Headed Cause → Type 0
  OverRows given = Then (λ r. r ≡ ok_or heading causes.Field) (IsHeaded given)

  abbrev IsNewTitle : Unit {0} → Result Headed Cause → Type 0
  IsNewTitle new = Then (λ r. r ≡ ok_or rows causes.MissingBlock) OverRows

  abbrev IsTitle : Result Headed Cause → Type 0
  IsTitle = Then (λ r. r ≡ once before) IsNewTitle

  abbrev HasLines : Headed → Result PlainMatrix LineFault → Type 0
  HasLines headed = Then (AreElements headed.heading.triangle headed.rows block.body) (λ cells r. r ≡ Ok (record { content = headed.heading.content; cells = cells }))

  -- a title that is refused
  title_stops : (cause : Cause) → IsTitle (Err cause) → IsMatrix before rows heading block (Err (fault_at block.title.number cause))
  title_stops cause h =
      then_stops (IsMatrixTitle before rows heading block.title) HasLines (fault_at block.title.number cause)
      (renamed_refusal (fault_at block.title.number) IsTitle cause h)

  pub repeated_title : is_some before ≡ true → IsMatrix before rows heading block (Err (fault_at block.title.number causes.Repeated))
  repeated_title old = title_stops causes.Repeated (then_stops (λ r. r ≡ once before) IsNewTitle causes.Repeated (sym (once_repeated before old)))

  module _ (new : is_some before ≡ false) where
    new_title : (r : Result Headed Cause) → IsNewTitle tt r → IsTitle r
    new_title r h = then_gives (λ r. r ≡ once before) IsNewTitle tt r (sym (once_new before new)) h

    pub rowless_title : rows ≡ None → IsMatrix before rows heading block (Err (fault_at block.title.number causes.MissingBlock))
    rowless_title none =
        title_stops causes.MissingBlock
        (new_title (Err causes.MissingBlock)
        (then_stops (λ r. r ≡ ok_or rows causes.MissingBlock) OverRows causes.MissingBlock (sym (ap (λ (o : Option (List Row)). ok_or {E = Cause} o causes.MissingBlock) none))))

    module _ (given : List Row) (has_rows : rows ≡ Some given) where
      rows_title : (r : Result Headed Cause) → OverRows given r → IsNewTitle tt r
      rows_title r h =
          then_gives (λ r. r ≡ ok_or rows causes.MissingBlock) OverRows given r (sym (ap (λ (o : Option (List Row)). ok_or {E = Cause} o causes.MissingBlock) has_rows)) h

      pub wordless_title : heading ≡ None → IsMatrix before rows heading block (Err (fault_at block.title.number causes.Field))
      wordless_title none =
          title_stops causes.Field
          (new_title (Err causes.Field)
          (rows_title (Err causes.Field)
          (then_stops (λ r. r ≡ ok_or heading causes.Field) (IsHeaded given) causes.Field (sym (ap (λ (o : Option Heading). ok_or {E = Cause} o causes.Field) none)))))

      module _ (named : Heading) (has_heading : heading ≡ Some named) where
        whole_title : IsTitle (Ok (record { heading = named; rows = given }))
        whole_title =
            new_title _ (rows_title _
            (then_gives (λ r. r ≡ ok_or heading causes.Field) (IsHeaded given) named (Ok (record { heading = named; rows = given })) (sym (ap (λ (o : Option Heading). ok_or {E = Cause} o causes.Field) has_heading)) refl))

        -- the lines under a whole title
        pub lines_give : (cells : List Cell) → AreElements named.triangle given block.body (Ok cells) → IsMatrix before rows heading block (Ok (record { content = named.content; cells = cells }))
        lines_give cells h =
            then_gives (IsMatrixTitle before rows heading block.title) HasLines (record { heading = named; rows = given }) (Ok (record { content = named.content; cells = cells })) whole_title
            (then_gives (AreElements named.triangle given block.body) (λ cells r. r ≡ Ok (record { content = named.content; cells = cells })) cells (Ok (record { content = named.content; cells = cells })) h refl)

        lines_stop : (fault : LineFault) → AreElements named.triangle given block.body (Err fault) → IsMatrix before rows heading block (Err fault)
        lines_stop fault h =
            then_gives (IsMatrixTitle before rows heading block.title) HasLines (record { heading = named; rows = given }) (Err fault) whole_title
            (then_stops (AreElements named.triangle given block.body) (λ cells r. r ≡ Ok (record { content = named.content; cells = cells })) fault h)

        pub lines_refuse : {T : Type 0} (view : T → List Cell) (body : List PlainLine) (error : DocError) → body ≡ block.body → Answers view (AreElements named.triangle given body) (Err error) → Answers matrix_view (IsMatrix before rows heading block) (Err error)
        lines_refuse view body (Line fault) same h = lines_stop fault (subst (λ (b : List PlainLine). AreElements named.triangle given b (Err fault)) same h)
        lines_refuse view body Memory same h = tt

  -- ---- what it puts into the document, where the code sees these rows and this heading
  module _ (put : PlainMatrix → PlainDoc) (seen : Option (List Row)) (said : Option Heading) (same : seen ≡ rows) (agreed : said ≡ heading) where
    over_seen : (r : Result PlainMatrix LineFault) → IsMatrix before seen said block r → IsMatrix before rows heading block r
    over_seen r h =
        subst (λ (s : Option (List Row)). IsMatrix before s heading block r) same
        (subst (λ (o : Option Heading). IsMatrix before seen o block r) agreed h)

    pub matrix_gives : (matrix : PlainMatrix) → IsMatrix before seen said block (Ok matrix) → Then (IsMatrix before rows heading block) (λ matrix r. r ≡ Ok (put matrix)) (Ok (put matrix))
    matrix_gives matrix h = then_gives (IsMatrix before rows heading block) (λ matrix r. r ≡ Ok (put matrix)) matrix (Ok (put matrix)) (over_seen (Ok matrix) h) refl

    pub matrix_refuses : {T U : Type 0} (view : T → PlainMatrix) (other : U → PlainDoc) (error : DocError) → Answers view (IsMatrix before seen said block) (Err error) → Answers other (Then (IsMatrix before rows heading block) (λ matrix r. r ≡ Ok (put matrix))) (Err error)
    matrix_refuses view other (Line fault) h = then_stops (IsMatrix before rows heading block) (λ matrix r. r ≡ Ok (put matrix)) fault (over_seen (Err fault) h)
    matrix_refuses view other Memory h = tt
